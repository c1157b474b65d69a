-- What is read of a tree before its first node.
use Rattle.std.proofs.Common.{◌≡◌, ◌≢◌, ◌∙◌, ◌+◌, ◌-◌, Bool, true, false, List, [], ◌∷◌, ◌++◌, length, sym, ap, subst, arith}
use Rattle.std.proofs.lemmas.Bool.{false≢true}
use Rattle.bip_model.specs.declared.fix.Fix.{Fix}
use Rattle.certificate.specs.declared.head.Head.{Head}
use Rattle.certificate.specs.Certificates.{IsLine}
use Rattle.certificate.specs.Texts.{text_of}
use Rattle.certificate.proofs.Heads.{heads-keep-limits, tree-behind}
use Rattle.gap_checker.specs.declared.judge.Judge.{Judge}
use Rattle.gap_checker.specs.declared.tree_reader.TreeReader.{TreeReader}
use Rattle.gap_checker.specs.At.{IsSomeHead}
use Rattle.gap_checker.specs.inner.Judges.{IsWalk}
use Rattle.gap_checker.specs.inner.Nodes.{starts_of}
use Rattle.gap_checker.specs.inner.Readings.{lines_of, ReaderFits, HasTaken}
use Rattle.gap_checker.proofs.TreeTexts.{trees-even}
use Rattle.gap_checker.proofs.Walking.{walk-start}
use Rattle.gap_checker.proofs.Reading.{no-byte}

-- ## The start

pub starts-fit : (head : Head) (r : TreeReader) (root : Fix) → IsSomeHead head → r.read ≡ 0 → r.is_done ≡ false → r.starts.items ≡ root ∷ [] → r.partial ≡ [] → ReaderFits head r
starts-fit head r root some read undone starts partial =
    let limits = heads-keep-limits some.bytes head some.is in
    let one : length r.starts.items ≡ 1 = ap length starts in
    let nodes : length some.is.cert.tree ≡ head.nodes = (tree-behind some.bytes head some.is).1 in
    let even = trees-even 1 some.is.cert.tree some.is.certificate.limits.tree in
    record {
      few_sets = limits.few_sets;
      few_nodes = limits.few_nodes;
      within = omega (arith, read);
      trees = record { few = omega (arith, one, read, limits.some_nodes); none = λ none. absurd (omega (arith, one, none)) };
      even = omega (arith, even, one, read, nodes);
      done = λ done. absurd (false≢true (sym undone ∙ done));
      short = omega (arith, ap length partial);
    }

pub starts-taken : (judge : Judge) (head : Head) (r : TreeReader) → r.read ≡ 0 → r.is_done ≡ false → r.starts.items ≡ judge.root.now ∷ [] → r.partial ≡ [] → HasTaken judge head r []
starts-taken judge head r read undone starts partial =
    record {
      read = [];
      count = sym read;
      limits = tt;
      walk = subst (λ (items : List Fix). IsWalk judge [] (starts_of items)) (sym starts) (walk-start judge);
      plain = subst IsLine (sym partial) no-byte;
      parts = sym (ap (λ (d : Bool). text_of (lines_of [] d) ++ r.partial) undone ∙ partial);
    }
