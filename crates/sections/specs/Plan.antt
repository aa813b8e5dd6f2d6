-- What a plan says, as lists. Document 01, "The bit-packed plan".
use Rattle.std.specs.Prelude.{ℕ, zero, suc, Bool, List, eqb, get_or}
use Rattle.sections.specs.declared.Kind.{Kind}
use Rattle.sections.specs.declared.Kind.TheVariants.{Every, None}

-- "each job: size 9, entry node 8, exit node 8". Order 5: "Each job's record gains a last bit, 26 bits in all"
pub record Job : Type 0 where
  pub size : ℕ
  pub entry : ℕ
  pub exit : ℕ
  pub standing : ℕ

-- what that bit says, order 5: "1 is a standing job"
abbrev pub stands : (standing : ℕ) → Bool
stands bit = eqb bit 1

-- A local step, whose label is its event; or a call or an accept, whose label is its channel.
pub record Arc : Type 0 where
  pub from : ℕ
  pub to : ℕ
  pub label : ℕ

-- the arc with the number i; past the end of the list an arc of zeros
abbrev pub no_arc : Arc
no_arc = record { from = 0; to = 0; label = 0 }

abbrev pub arc_at : List Arc → ℕ → Arc
arc_at l i = get_or l i no_arc

pub record Plan : Type 0 where
  pub nodes : ℕ
  pub kind : Kind
  -- how many items the pattern has
  pub items : ℕ
  -- the watched events; event e has weight 2 ^ e
  pub alphabet : ℕ
  pub jobs : List Job
  pub steps : List Arc
  -- the event of each channel
  pub channels : List ℕ
  pub calls : List Arc
  pub accepts : List Arc

-- "kind 1 (0 every, 1 none)"
abbrev pub kind_of : ℕ → Kind
kind_of zero = Every
kind_of (suc k) = None
