-- Laws of strings: of no event, and those that follow one another, `Followed`, and joined strings, `Joined`: by their first event, and the empty string.
use mathlib.Core.Path.{◌≡◌, refl, sym, ap, ◌∙◌}
use mathlib.Core.List.{List, [], ◌∷◌, ◌++◌, cons-ne-nil}
use mathlib.Core.Logic.{◌⊎◌, inl, inr}
use Prim.Native.Nat.{ℕ}
use Rattle.masks.proofs.Members.{not_in_none}
use Rattle.expressions.specs.Expression.{set, Language, Followed, Joined, done, more}

-- "an empty set of events matches no string"
pub no_string : (w : List ℕ) → Language (set 0) w → ⊥
no_string w l = not_in_none l.0 l.1

-- ---- a string of P followed by one of Q

module _ (P Q : List ℕ → Type 0) where
  -- the first event is one of the second string, the first being empty, or one of the first
  pub followed_cons : (e : ℕ) (w : List ℕ) → Followed P Q (e ∷ w) → (P [] × Q (e ∷ w)) ⊎ Followed (λ u. P (e ∷ u)) Q w
  followed_cons e w c = go c.0 c.2 c.4
    where
      go : (u : List ℕ) → P u → e ∷ w ≡ u ++ c.1 → (P [] × Q (e ∷ w)) ⊎ Followed (λ u. P (e ∷ u)) Q w
      go [] p q = inl (p, rw q c.3)
      go (x ∷ u) p q = inr (u, c.1, (let h : e ≡ x = cc in rw h p), c.3, cc)

  pub followed_left : (e : ℕ) (w : List ℕ) → Followed (λ u. P (e ∷ u)) Q w → Followed P Q (e ∷ w)
  followed_left e w c = (e ∷ c.0, c.1, c.2, c.3, ap (λ (x : List ℕ). e ∷ x) c.4)

  pub followed_right : (w : List ℕ) → P [] → Q w → Followed P Q w
  followed_right w p q = ([], w, p, q, refl)

  -- the empty string is two empty ones
  pub followed_nil : Followed P Q [] → P [] × Q []
  followed_nil c = go c.0 c.1 c.2 c.3 c.4
    where
      go : (u v : List ℕ) → P u → Q v → [] ≡ u ++ v → P [] × Q []
      go [] v p q h = (p, rw h q)
      go (x ∷ u) v p q h = absurd (cons-ne-nil _ _ (sym h))

pub followed_map : {P P' Q : List ℕ → Type 0} (w : List ℕ) → ((u : List ℕ) → P u → P' u) → Followed P Q w → Followed P' Q w
followed_map w f c = (c.0, c.1, f c.0 c.2, c.3, c.4)

-- ---- strings of P joined

module _ {P : List ℕ → Type 0} where
  -- the first event is one of the first string that is not empty
  pub joined_cons : (e : ℕ) {w : List ℕ} (x : List ℕ) → x ≡ e ∷ w → Joined P x → Followed (λ u. P (e ∷ u)) (Joined P) w
  joined_cons e x q done = absurd (cons-ne-nil _ _ (sym q))
  joined_cons e x q (more {u = []} {v} p m h) = joined_cons e v (sym h ∙ q) m
  joined_cons e x q (more {u = y ∷ u} {v} p m h) = (u, v, (let k : e ≡ y = cc in rw k p), m, cc)

  pub joined_left : (e : ℕ) (w : List ℕ) → Followed (λ u. P (e ∷ u)) (Joined P) w → Joined P (e ∷ w)
  joined_left e w c = more c.2 c.3 (ap (λ (x : List ℕ). e ∷ x) c.4)
