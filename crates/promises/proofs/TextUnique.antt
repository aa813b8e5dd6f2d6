-- A plan, a text and a lent row have one answer, with one row in the end. Assumes nothing.
use mathlib.Core.Path.{subst}
use mathlib.Core.List.{List}
use mathlib.Core.Option.{Option}
use Prim.Native.Nat.{ℕ}
use Rattle.grammar.specs.Grammar.{Tree, Reading}
use Rattle.grammar.proofs.Unique.{one_reading}
use Rattle.verdict.specs.Answer.{Answer}
use Rattle.promises.specs.Order.{typed}
use Rattle.promises.specs.Judged.{Judged, JudgedText}
use Rattle.promises.proofs.Unique.{Determined, judged_unique}

-- the promise speaks of any reading of the text
pub by_reading : (b w before : List ℕ) (x : Answer) (u : List ℕ) (o : Option Tree) → Reading w o → JudgedText b w before x u
    → Judged (typed w o) b before x u
by_reading b w before x u o d j = subst (λ (p : Option Tree). Judged (typed w p) b before x u) (one_reading w j.tree o j.reading d) j.judged

pub typed_unique : (b w : List ℕ) → Determined (JudgedText b w)
typed_unique b w before x y u v j k = judged_unique (typed w k.tree) b before x y u v (by_reading b w before x u k.tree k.reading j) k.judged
