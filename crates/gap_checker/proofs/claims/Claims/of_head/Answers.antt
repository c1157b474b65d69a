use Rattle.std.proofs.Common.{◌∙◌, ℕ, List, length, ap, subst, sym, arith, rules}
use Rattle.std.specs.List.{AllByRecursion}
use Rattle.std.proofs.lemmas.Int.{to_z-of_z}
use mir.Syntax.{w128}
use Rattle.certificate.specs.declared.cert.Cert.{Cert}
use Rattle.certificate.specs.declared.cert.SparseSet.{SparseSet}
use Rattle.certificate.specs.Limits.{Rise, SetLimits, entry_count}
use Rattle.gap_checker.proofs.claims.Claims.of_head.Goals as goal

pub returns-clause-limits : goal.returns-clause-limits
returns-clause-limits c =
    record {
      budget_most = c.requires.budget;
      config_rises = subst (Rise 1) (sym c.as_slice.ensures) c.requires.config;
      few_sets = omega (arith, ap length c.as_slice-2.ensures, c.requires.few_sets);
      each = subst (AllByRecursion SetLimits) (sym c.as_slice-2.ensures) c.requires.sets;
      few_entries = omega (arith, ap entry_count c.as_slice-2.ensures, c.requires.few_entries);
    }

pub returns-clause-same : goal.returns-clause-same
returns-clause-same c = λ tree.
    let head = c.args.head.now in
    let made : List ℕ → List SparseSet → Cert = λ config sets. record { version = head.version; budget = head.budget; config = config; cost = head.cost; bound = head.bound; sets = sets; tree = tree } in
    rw (to_z-of_z w128 head.bound (search rules))
    (ap (λ (config : List ℕ). made config c.as_slice-2.result.now) c.as_slice.ensures ∙ ap (λ (sets : List SparseSet). made head.config sets) c.as_slice-2.ensures)
