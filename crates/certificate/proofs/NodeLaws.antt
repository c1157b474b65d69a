-- The lines of a tree.
use Rattle.std.proofs.Common.{◌≡◌, ◌≢◌, ℕ, List, arith}
use Rattle.std.specs.Prelude.{codes}
use Rattle.adv_base.specs.declared.limits.TheConstants.{MOST_CANDIDATES}
use Rattle.bip_model.specs.declared.answer.Node.{Node}
use Rattle.bip_model.specs.declared.answer.Node.TheVariants.{Branch, Bounded, Overfull}
use Rattle.certificate.specs.Limits.{NodeLimits}
use Rattle.certificate.specs.Texts.{node_line}
use Rattle.certificate.specs.inner.Words.{IsNumberLine}

pub node-overfull : (sets : ℕ) (line : List ℕ) → line ≡ codes "X" → NodeLimits sets Overfull × (line ≡ node_line Overfull)
unfolding node_line
node-overfull sets line e = (tt, e)

pub node-branch : (sets : ℕ) (line : List ℕ) (a : ℕ) → IsNumberLine (codes "B") 1 MOST_CANDIDATES line a → NodeLimits sets (Branch a) × (line ≡ node_line (Branch a))
unfolding node_line
node-branch sets line a h = ((h.low, h.high), h.parts)

pub node-bounded : (sets : ℕ) (line : List ℕ) (k : ℕ) → IsNumberLine (codes "L") 0 sets line k → NodeLimits sets (Bounded k) × (line ≡ node_line (Bounded k))
unfolding node_line
node-bounded sets line k h = (h.high, h.parts)

pub node-none : (sets : ℕ) (line : List ℕ) → line ≢ codes "X" → ((a : ℕ) → IsNumberLine (codes "B") 1 MOST_CANDIDATES line a → ⊥) → ((k : ℕ) → IsNumberLine (codes "L") 0 sets line k → ⊥) →
    (node : Node) → NodeLimits sets node → line ≢ node_line node
unfolding node_line
node-none sets line not_x not_b not_l (Branch a) h e = not_b a (record { parts = e; low = h.0; high = h.1 })
node-none sets line not_x not_b not_l (Bounded k) h e = not_l k (record { parts = e; low = omega arith; high = h })
node-none sets line not_x not_b not_l Overfull h e = not_x e
