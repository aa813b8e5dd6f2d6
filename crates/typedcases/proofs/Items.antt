-- Texts under an alphabet, and what their reader answers, the items or 18 to 20, by evaluation. Document 02, order 1.
use mathlib.Core.Path.{◌≡◌, refl, sym, ap, subst, ◌∙◌}
use mathlib.Core.List.{List, [], ◌∷◌, ◌++◌, map, Memᴰ}
use mathlib.Core.Option
use mathlib.Core.Option.{Option, none, some, some-injective, map-eq-some_iff, bind-eq-some_iff}
use Prim.Native.Nat.{ℕ, zero, suc, ◌+◌, ◌-◌, ◌^◌}
use Prim.Native.String.{String}
use lib.ListN.{replicate}
use Rattle.std.specs.Prelude.{Result, Ok, Err}
use Rattle.arrayvec.specs.ArrayVec.{ArrayVec}
use Rattle.refusals.specs.declared.Refusal.{Refusal}
use Rattle.refusals.specs.declared.Refusal.TheVariants.{Unreadable, ManyItems, StrangeLetter}
use Rattle.masks.specs.Mask.{digit}
use Rattle.line.specs.Line.{text}
use Rattle.plan.specs.Checks.{first, any_from}
use Rattle.plan.proofs.Cases.{agree}
use Rattle.expressions.specs.declared.Item.{Item}
use Rattle.expressions.specs.declared.Item.TheVariants.{Empty as empty, Events as events, Sequence as sequence, Choice as choice, Repeat as repeat}
use Rattle.grammar.specs.Grammar.{Tree, Reading, asterisk}
use Rattle.grammar.specs.Meaning.{listed, items_of, letters_of, text_refusals, typed_items}
use Rattle.grammar.specs.Ways.{letters, past_letters, stars}
use Rattle.grammar.proofs.Evaluate.{run}
use Rattle.text.specs.Typed.{Typed}
use Rattle.text.proofs.Unique.{read_unique}
use Rattle.promises.proofs.Named.{named, number_named}
use Rattle.typedcases.proofs.Readings.{read_within, read_within_lem, nested}

-- ---- an executable reader

abbrev Reply : Type 0
Reply = Result (ArrayVec Item) Refusal

-- what is answered to a text where this refusal applies first, or none
abbrev answered : Option ℕ → List Item → Option Reply
answered none l = some (Ok (record { items = l }))
answered (some n) l = Option.map Err (named n)

-- what is answered to a text with the tree t
abbrev reply_of : List ℕ → (alphabet : ℕ) → Option Tree → Option Reply
reply_of w a t = answered (first (text_refusals w t) a) (typed_items a t)

-- what is answered to a text that is read within n steps; none where they are too few
abbrev reply_within : (n : ℕ) → List ℕ → (alphabet : ℕ) → Option Reply
reply_within n w a = Option.bind (read_within n w) (reply_of w a)

module _ (w : List ℕ) (a : ℕ) (t : Option Tree) (d : Reading w t) (x : Reply) where
  reply_typed : reply_of w a t ≡ some x → Typed w a x
  reply_typed = go (first (text_refusals w t) a) refl
    where
      go : (o : Option ℕ) → first (text_refusals w t) a ≡ o → answered o (typed_items a t) ≡ some x → Typed w a x
      go none q e =
          subst (λ (r : Reply). Typed w a r) (some-injective _ x e) (record { tree = t; reading = d; refusal = sym q; items = refl })
      go (some n) q e =
          let made = (map-eq-some_iff Err (named n)).0 e in
          subst (λ (r : Reply). Typed w a r) made.2
          (record { tree = t; reading = d; refusal = ap some (number_named n made.0 made.1) ∙ sym q; items = tt })

reply_within_lem : (n : ℕ) (w : List ℕ) (a : ℕ) (x : Reply) → reply_within n w a ≡ some x → Typed w a x
reply_within_lem n w a x e =
    let made = (bind-eq-some_iff (read_within n w) (reply_of w a)).0 e in
    reply_typed w a made.0 (read_within_lem n w made.0 made.1) x made.2

-- ---- texts under alphabets

pub record ItemsCase : Type 0 where
  pub text : List ℕ
  pub alphabet : ℕ
  pub answer : Result (ArrayVec Item) Refusal

abbrev items_of_lem : List ℕ → (alphabet : ℕ) → List Item → ItemsCase
items_of_lem w a l = record { text = w; alphabet = a; answer = Ok (record { items = l }) }

abbrev gives : String → (alphabet : ℕ) → List Item → ItemsCase
gives s a l = items_of_lem (text s) a l

abbrev refused : List ℕ → (alphabet : ℕ) → Refusal → ItemsCase
refused w a x = record { text = w; alphabet = a; answer = Err x }

-- the alphabets of no event; of 1; of 1, 2 and 3; of 27 to 31, which have no letter; of all events
abbrev nothing : ℕ
nothing = 0

abbrev only_a : ℕ
only_a = 2 ^ 1

abbrev a_to_c : ℕ
a_to_c = 2 ^ 1 + 2 ^ 2 + 2 ^ 3

abbrev unlettered : ℕ
unlettered = 2 ^ 27 + 2 ^ 28 + 2 ^ 29 + 2 ^ 30 + 2 ^ 31

abbrev everything : ℕ
everything = 2 ^ 32 - 2

-- the items of letters
abbrev a : Item
a = events (2 ^ 1)

abbrev b : Item
b = events (2 ^ 2)

abbrev c : Item
c = events (2 ^ 3)

-- operators behind their operands
abbrev ordered : List ItemsCase
ordered =
    gives "a" only_a (a ∷ [])
    ∷ gives "0" nothing (empty ∷ [])
    ∷ gives "a|b;c*" a_to_c (a ∷ b ∷ c ∷ repeat ∷ sequence ∷ choice ∷ [])
    ∷ gives "(a|b);c*" a_to_c (a ∷ b ∷ choice ∷ c ∷ repeat ∷ sequence ∷ [])
    ∷ gives "a;b;c" a_to_c (a ∷ b ∷ sequence ∷ c ∷ sequence ∷ [])
    ∷ gives "(a;b);c" a_to_c (a ∷ b ∷ sequence ∷ c ∷ sequence ∷ [])
    ∷ gives "a;(b;c)" a_to_c (a ∷ b ∷ c ∷ sequence ∷ sequence ∷ [])
    ∷ gives "a|b|c" a_to_c (a ∷ b ∷ choice ∷ c ∷ choice ∷ [])
    ∷ gives "a|(b|c)" a_to_c (a ∷ b ∷ c ∷ choice ∷ choice ∷ [])
    ∷ gives "a**" only_a (a ∷ repeat ∷ repeat ∷ [])
    ∷ gives "((a))" only_a (a ∷ [])
    ∷ items_of_lem (nested (text "a")) only_a (a ∷ [])  -- 255 bytes
    ∷ []

-- sets; `[^]` also holds the events that no letter names
abbrev sets : List ItemsCase
sets =
    gives "z" everything (events (2 ^ 26) ∷ [])
    ∷ gives "[]" a_to_c (events 0 ∷ [])
    ∷ gives "[]" nothing (events 0 ∷ [])
    ∷ gives "[aa]" a_to_c (a ∷ [])
    ∷ gives "[ab]" a_to_c (events (2 ^ 1 + 2 ^ 2) ∷ [])
    ∷ gives "[ba]" a_to_c (events (2 ^ 1 + 2 ^ 2) ∷ [])
    ∷ gives "[^]" everything (events 4294967294 ∷ [])
    ∷ gives "[^]" unlettered (events 4160749568 ∷ [])
    ∷ gives "[^]" a_to_c (events 14 ∷ [])
    ∷ gives "[^]" nothing (events 0 ∷ [])
    ∷ gives "[^ab]" a_to_c (c ∷ [])
    ∷ gives "[^aab]" a_to_c (c ∷ [])
    ∷ gives "[^abc]" a_to_c (events 0 ∷ [])
    ∷ gives "[^z]" everything (events 4227858430 ∷ [])
    ∷ items_of_lem (text "[" ++ replicate 253 97 ++ text "]") only_a (a ∷ [])  -- 255 bytes
    ∷ []

-- n more units in sequence, `;a` for each `a`, and the items of those
abbrev pub more : (unit : String) → ℕ → List ℕ
more u zero = []
more u (suc n) = text ";" ++ text u ++ more u n

abbrev sequences : ℕ → List Item
sequences zero = []
sequences (suc n) = a ∷ sequence ∷ sequences n

-- a letter and n stars
abbrev starry : ℕ → List ℕ
starry n = text "a" ++ replicate n asterisk

-- 19, over 64 items
abbrev many : List ItemsCase
many =
    items_of_lem (text "a" ++ more "a" 31) only_a (a ∷ sequences 31)  -- 32 letters, 63 items
    ∷ items_of_lem (text "a" ++ more "a" 31 ++ text "*") only_a (a ∷ sequences 30 ++ (a ∷ repeat ∷ sequence ∷ []))  -- 64 items
    ∷ refused (text "a" ++ more "a" 31 ++ text "**") only_a ManyItems  -- 65 items
    ∷ refused (text "a" ++ more "a" 32) only_a ManyItems  -- 33 letters, 65 items
    ∷ items_of_lem (starry 63) only_a (a ∷ replicate 63 repeat)
    ∷ refused (starry 64) only_a ManyItems
    ∷ refused (starry 254) only_a ManyItems  -- 255 bytes
    ∷ []

-- 20, a letter outside the alphabet
abbrev strange : List ItemsCase
strange =
    refused (text "z") a_to_c StrangeLetter
    ∷ refused (text "[z]") a_to_c StrangeLetter
    ∷ refused (text "[^z]") a_to_c StrangeLetter
    ∷ refused (text "[az]") a_to_c StrangeLetter
    ∷ refused (text "a;b;z") a_to_c StrangeLetter
    ∷ refused (text "a|(b;z*)") a_to_c StrangeLetter
    ∷ refused (text "a") nothing StrangeLetter
    ∷ refused (text "[^a]") nothing StrangeLetter
    ∷ refused (text "a") unlettered StrangeLetter
    ∷ []

-- 18, a text that breaks the grammar or has more than 255 bytes
abbrev unread : List ItemsCase
unread =
    refused [] only_a Unreadable
    ∷ refused (text "a;") only_a Unreadable
    ∷ refused (text "()") nothing Unreadable
    ∷ refused (nested (text "[]")) only_a Unreadable  -- 256 bytes of one item
    ∷ refused (text "[" ++ replicate 254 97 ++ text "]") only_a Unreadable  -- so too
    ∷ []

-- several apply
abbrev overlaps : List ItemsCase
overlaps =
    refused (starry 255) only_a Unreadable  -- 256 bytes, and 256 items
    ∷ refused (starry 255) nothing Unreadable  -- and a letter that is not watched
    ∷ refused (text "a" ++ more "a" 32 ++ text ";") only_a Unreadable  -- 33 letters, and the grammar broken
    ∷ refused (text "z;") only_a Unreadable
    ∷ refused (text "[" ++ replicate 254 122 ++ text "]") only_a Unreadable  -- 256 bytes, and 20
    ∷ refused (text "z" ++ more "z" 32) only_a ManyItems  -- 19 and 20
    ∷ refused (text "a" ++ more "a" 31 ++ more "z" 1) only_a ManyItems  -- so too
    ∷ []

-- the table
abbrev pub cases : List ItemsCase
cases = ordered ++ sets ++ many ++ strange ++ unread ++ overlaps

-- by 400 steps, which are enough for all of them
abbrev found : ItemsCase → Option Reply
found i = reply_within 400 i.text i.alphabet

abbrev said : ItemsCase → Option Reply
said i = some i.answer

replies : map found cases ≡ map said cases
unfolding Option.bind run letters past_letters stars first any_from digit listed items_of letters_of
replies = refl

-- the answers of the table are what the reader of texts promises
pub all_items : {i : ItemsCase} → Memᴰ i cases → Typed i.text i.alphabet i.answer
all_items {i} m = reply_within_lem 400 i.text i.alphabet i.answer (agree found said replies m)

-- and it promises no others
pub known_items : {i : ItemsCase} → Memᴰ i cases → (r : Result (ArrayVec Item) Refusal) → Typed i.text i.alphabet r → r ≡ i.answer
known_items {i} m r told = read_unique i.text i.alphabet r i.answer told (all_items m)
