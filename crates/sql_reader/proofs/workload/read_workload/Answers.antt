use Rattle.std.proofs.Common.{◌≡◌, ◌⊎◌, List, ℕ, inl, inr, ap, ◌∙◌, subst}
use Rattle.std.proofs.lemmas.Result.{IfErr-weaker}
use Rattle.sql_tokens.specs.declared.token_list.TokenFault.{TokenFault}
use Rattle.sql_tokens.specs.declared.token_list.TokenFault.TheVariants as tokens
use Rattle.sql_tokens.specs.Cut.{HasFault}
use Rattle.sql_reader.specs.declared.parsed.SqlFault.{SqlFault}
use Rattle.sql_reader.specs.declared.parsed.SqlFault.TheVariants as faults
use Rattle.sql_reader.specs.Workload.{IsFirstFault, HasSqlFault}
use Rattle.sql_reader.proofs.Outcome.{from_first}
use Rattle.sql_reader.proofs.Unique.{found_only, told_only, workload_or_fault, one_sql_fault}
use Rattle.sql_reader.proofs.OneTooMany.{told_too_many}
use Rattle.sql_reader.proofs.workload.read_workload.Goals as goal

told : (text : List ℕ) (e : SqlFault) → (e ≡ faults.Memory) ⊎ IsFirstFault text e → (e ≡ faults.Memory) ⊎ HasSqlFault text e
told text e (inl memory) = inl memory
told text e (inr first) = inr (from_first text e first)

pub returns-in-Ok-clause-fault : goal.returns-in-Ok-clause-fault
returns-in-Ok-clause-fault c = IfErr-weaker c.read_surveyed.result _ _ (λ e h. told c.args.text.now e h) c.read_surveyed.ensures.fault

pub returns-in-Ok-clause-only : goal.returns-in-Ok-clause-only
returns-in-Ok-clause-only c =
    found_only c.args.text.now c.read_surveyed.result (λ parsed. parsed.statements) c.read_surveyed.ensures.found
    (IfErr-weaker c.read_surveyed.result _ _ (λ e h. told c.args.text.now e h) c.read_surveyed.ensures.fault)

pub returns-in-Ok-clause-fault_only : goal.returns-in-Ok-clause-fault_only
returns-in-Ok-clause-fault_only c =
    told_only c.args.text.now c.read_surveyed.result (λ parsed. parsed.statements) c.read_surveyed.ensures.found
    (IfErr-weaker c.read_surveyed.result _ _ (λ e h. told c.args.text.now e h) c.read_surveyed.ensures.fault)

bad_byte_in : (text : List ℕ) (fault : TokenFault) (place : ℕ) → fault ≡ tokens.BadByte place → HasFault text fault →
    HasSqlFault text (faults.BadByte place)
bad_byte_in text fault place is h = subst (HasFault text) is h

open_text_in : (text : List ℕ) (fault : TokenFault) (place : ℕ) → fault ≡ tokens.OpenText place → HasFault text fault →
    HasSqlFault text (faults.OpenText place)
open_text_in text fault place is h = subst (HasFault text) is h

pub returns-in-Err-BadByte-clause-only : goal.returns-in-Err-BadByte-clause-only
returns-in-Err-BadByte-clause-only c = λ statements h.
    absurd (workload_or_fault c.args.text.now statements (faults.BadByte c.in-Err-BadByte.place) h
    (bad_byte_in c.args.text.now c.in-Err-BadByte.field-0 c.in-Err-BadByte.place c.in-Err-BadByte.field-0-is c.in-Err-BadByte.ensures.err))

pub returns-in-Err-BadByte-clause-fault_only : goal.returns-in-Err-BadByte-clause-fault_only
returns-in-Err-BadByte-clause-fault_only c = λ e h.
    inl (ap (λ (place : ℕ). faults.BadByte place) c.in-Err-BadByte.place-is ∙ one_sql_fault c.args.text.now (faults.BadByte c.in-Err-BadByte.place) e
    (bad_byte_in c.args.text.now c.in-Err-BadByte.field-0 c.in-Err-BadByte.place c.in-Err-BadByte.field-0-is c.in-Err-BadByte.ensures.err) h)

pub returns-in-Err-OpenText-clause-only : goal.returns-in-Err-OpenText-clause-only
returns-in-Err-OpenText-clause-only c = λ statements h.
    absurd (workload_or_fault c.args.text.now statements (faults.OpenText c.in-Err-OpenText.place) h
    (open_text_in c.args.text.now c.in-Err-OpenText.field-0 c.in-Err-OpenText.place c.in-Err-OpenText.field-0-is c.in-Err-OpenText.ensures.err))

pub returns-in-Err-OpenText-clause-fault_only : goal.returns-in-Err-OpenText-clause-fault_only
returns-in-Err-OpenText-clause-fault_only c = λ e h.
    inl (ap (λ (place : ℕ). faults.OpenText place) c.in-Err-OpenText.place-is ∙ one_sql_fault c.args.text.now (faults.OpenText c.in-Err-OpenText.place) e
    (open_text_in c.args.text.now c.in-Err-OpenText.field-0 c.in-Err-OpenText.place c.in-Err-OpenText.field-0-is c.in-Err-OpenText.ensures.err) h)

pub returns-in-Ok-clause-too_many : goal.returns-in-Ok-clause-too_many
returns-in-Ok-clause-too_many c =
    told_too_many c.args.text.now c.read_surveyed.result
    (IfErr-weaker c.read_surveyed.result _ _ (λ e h. told c.args.text.now e h) c.read_surveyed.ensures.fault)
