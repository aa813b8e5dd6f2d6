-- Plans from their fields, for tables of plans and their answers.
use mathlib.Core.Path.{◌≡◌, sym, ap, ◌∙◌}
use mathlib.Core.List.{List, [], ◌∷◌, ◌++◌, map, Memᴰ, head-eq_of_cons-eq, tail-eq_of_cons-eq}
use Prim.Native.Nat.{ℕ, zero, suc, ◌+◌, ◌/◌, ◌%◌, ◌^◌}
use lib.ListN.{length, take, drop, replicate}
use Rattle.fields.specs.Bits.{value_from}

-- ---- plan P of document 01

abbrev pub P : List ℕ
P =
    0x08 ∷ 0x08 ∷ 0x02 ∷ 0x00 ∷ 0x00 ∷ 0x00 ∷ 0x06 ∷ 0x00 ∷ 0x00 ∷ 0x00 ∷ 0x00
    ∷ 0x08 ∷ 0x00 ∷ 0x04 ∷ 0x00 ∷ 0x02 ∷ 0x10 ∷ 0x30 ∷ 0x00 ∷ 0x00 ∷ 0x00 ∷ 0x00 ∷ []

-- ---- plans from their fields

-- fields one after the other, each with its value and its width in bits
abbrev pub Fields : Type 0
Fields = List (ℕ × ℕ)

-- a field's bits, the most significant first
abbrev written : ℕ → ℕ → List ℕ
written v zero = []
written v (suc w) = v / 2 ^ w % 2 ∷ written v w

abbrev bits : Fields → List ℕ
bits [] = []
bits (f ∷ fs) = written f.0 f.1 ++ bits fs

-- n bytes of bits, and zero bits behind them
abbrev bytes : ℕ → List ℕ → List ℕ
bytes zero l = []
bytes (suc n) l = value_from 0 (take 8 (l ++ replicate 8 0)) ∷ bytes n (drop 8 l)

-- "Zero bits fill the last byte."
abbrev pub packed : Fields → List ℕ
packed fs = bytes ((length (bits fs) + 7) / 8) (bits fs)

-- The sections of a plan: the head, of kind every, and the alphabet, always {1}, since no check before the pattern reads it;
abbrev pub head : (jobs nodes steps calls accepts channels items : ℕ) → Fields
head jobs nodes steps calls accepts channels items =
    (jobs, 5) ∷ (nodes, 9) ∷ (steps, 9) ∷ (calls, 8) ∷ (accepts, 8) ∷ (channels, 7) ∷ (0, 1) ∷ (items, 7) ∷ (2 ^ 30, 31) ∷ []

-- a job that has to end;
abbrev pub job : (size entry exit : ℕ) → Fields
job size entry exit = (size, 9) ∷ (entry, 8) ∷ (exit, 8) ∷ (0, 1) ∷ []

-- a job that stands;
abbrev pub service : (size entry exit : ℕ) → Fields
service size entry exit = (size, 9) ∷ (entry, 8) ∷ (exit, 8) ∷ (1, 1) ∷ []

-- a local step;
abbrev pub step : (from to event : ℕ) → Fields
step from to event = (from, 8) ∷ (to, 8) ∷ (event, 5) ∷ []

-- a channel;
abbrev pub channel : (event : ℕ) → Fields
channel event = (event, 5) ∷ []

-- a call or an accept.
abbrev pub link : (from to on : ℕ) → Fields
link from to on = (from, 8) ∷ (to, 8) ∷ (on, 6) ∷ []

-- a plan of two nodes, one job and one step, as P
abbrev pub one : (j s : Fields) → List ℕ
one j s = packed (head 1 2 1 0 0 0 1 ++ j ++ s)

-- ---- tables

-- functions that agree over a list agree on each of its members
pub agree : {A B : Type 0} (f g : A → B) {a : A} {l : List A} → map f l ≡ map g l → Memᴰ a l → f a ≡ g a
agree f g e (Memᴰ.head p) = ap f p ∙ head-eq_of_cons-eq e ∙ sym (ap g p)
agree f g e (Memᴰ.tail m) = agree f g (tail-eq_of_cons-eq e) m
