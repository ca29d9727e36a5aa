-- Words read one by one into a load.
use Rattle.std.proofs.Common.{◌≡◌, ℕ, zero, suc, ◌+◌, ◌<◌, ◌≤◌, List, [], ◌∷◌, ◌++◌, length, get_or, take, drop, sym, ap, ◌∙◌, subst, add-one, arith, length-drop, take_all}
use Rattle.std.proofs.lemmas.List.{take_more}
use Rattle.load_text.specs.Text.{Written}

module _ {G : Type 0} (writes : List ℕ → G → Type 0) where
  written_push : (ws : List (List ℕ)) (gs : List G) (w : List ℕ) (g : G) → Written writes ws gs → writes w g → Written writes (ws ++ (w ∷ [])) (gs ++ (g ∷ []))
  written_push [] [] w g all one = (one, tt)
  written_push [] (h ∷ hs) w g all one = absurd all
  written_push (v ∷ vs) [] w g all one = absurd all
  written_push (v ∷ vs) (h ∷ hs) w g all one = (all.0, written_push vs hs w g all.1 one)

-- the word at n is the first of those from n on
pub record Heads (ws : List (List ℕ)) (n : ℕ) (w : List ℕ) (rest : List (List ℕ)) : Type 0 where
  pub within : n < length ws
  pub there : get_or ws n [] ≡ w
  pub others : drop (n + 1) ws ≡ rest

pub heads : (ws : List (List ℕ)) (n : ℕ) (w : List ℕ) (rest : List (List ℕ)) → drop n ws ≡ w ∷ rest → Heads ws n w rest
heads [] zero w rest e = let z : ◌≡◌ {A = ℕ} 0 1 = cc in absurd (omega arith)
heads [] (suc n) w rest e = let z : ◌≡◌ {A = ℕ} 0 1 = cc in absurd (omega arith)
heads (v ∷ vs) zero w rest e =
    let head : v ≡ w = cc in
    let tail : vs ≡ rest = cc in
    record { within = omega arith; there = head; others = tail }
heads (v ∷ vs) (suc n) w rest e =
    let h = heads vs n w rest e in
    record { within = omega (arith, h.within); there = h.there; others = rw (add-one (suc n)) (rw add-one at h.others) }

module _ {G : Type 0} (writes : List ℕ → G → Type 0) (ws : List (List ℕ)) (n : ℕ) (gs : List G) (w : List ℕ) (rest : List (List ℕ)) (h : Heads ws n w rest) (all : Written writes (take n ws) gs) where
  pub one_more : (g : G) → writes w g → Written writes (take (n + 1) ws) (gs ++ (g ∷ []))
  one_more g p =
      subst (λ (vs : List (List ℕ)). Written writes vs (gs ++ (g ∷ []))) (sym (take_more ws n [] h.within ∙ ap (λ v. take n ws ++ (v ∷ [])) h.there))
      (written_push writes (take n ws) gs w g all p)

-- where no word is left, all are read
pub all_read : {G : Type 0} (writes : List ℕ → G → Type 0) (ws : List (List ℕ)) (n : ℕ) (gs : List G) → drop n ws ≡ [] → Written writes (take n ws) gs → Written writes ws gs
all_read writes ws n gs none all =
    let size : length ws ≤ n = omega (arith, ap length none, length-drop n ws) in
    subst (λ (vs : List (List ℕ)). Written writes vs gs) (take_all n ws size) all
