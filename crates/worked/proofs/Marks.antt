-- Tests of the marks of two counts that agree from rank 48 on, and of a rule.
use Rattle.std.proofs.Common.{◌≡◌, ℕ, ◌<◌, ◌≤◌, Bool, true, false, not, Some, None, Option, List, map, sym, ◌∙◌, refl, inl, inr}
use Rattle.std.specs.Prelude.{◌==◌, ◌&&◌, nat_le, nat_lt, Decides}
use Rattle.std.proofs.lemmas.Bool.{false≢true, and_parts, cases_lt}
use Rattle.std.proofs.lemmas.Bool.Decides.{Decides-eqb, Decides-ltb, Decides-and, Decides-not, Decides-like}
use Rattle.marking.specs.Marks.{AlphaIs, BetaIs, Between, GammaSays, SigmaSays, Marked}
use Rattle.marking.specs.declared.marks.Marks.{Marks}
use Rattle.filtering.specs.Bounded.{MarksOf}
use Rattle.loads.specs.Kinds.{by_rank}
use Rattle.loads.specs.Loads.{count}
use Rattle.loads.proofs.FromTop.{count_past}
use Rattle.marking.proofs.Finding.{only_marks}
use Rattle.rules.specs.Filtered.{rule}
use Rattle.worked.proofs.Filters.{lo, hi, ready, meets, fit, ends, meets_decides}
use Rattle.worked.proofs.Tests.{ranks, ranks_only, every, every_decides, some, some_decides, when, when_decides, alike, alike_decides, le_decides}

no_decides : {P : Type 0} → (P → ⊥) → Decides false P
no_decides n = (λ e. absurd (false≢true e), λ p. absurd (n p))

module _ (ox oy : ℕ → ℕ) where
  abbrev between : ℕ → ℕ → Bool
  between low high = every (λ h. when (nat_lt low h) (ox h == oy h)) high

  between_decides : (low high : ℕ) → Decides (between low high) (Between ox oy low high)
  between_decides low high =
      Decides-like (between low high) (λ f h l m. f h m l) (λ f h m l. f h l m)
      (every_decides (λ h. when (nat_lt low h) (ox h == oy h)) (λ h. low < h → ox h ≡ oy h)
      (λ h. when_decides (nat_lt low h) (ox h == oy h) (Decides-ltb low h) (Decides-eqb (ox h) (oy h))) high)

  abbrev alpha_test : Option ℕ → Bool
  alpha_test None = every (λ h. ox h == oy h) 48
  alpha_test (Some α) = not (ox α == oy α) && between α 48

  abbrev beta_test : Option ℕ → Option ℕ → Bool
  beta_test None None = true
  beta_test None (Some β) = false
  beta_test (Some α) None = every (λ h. nat_le (ox h) (oy h)) α
  beta_test (Some α) (Some β) = nat_lt β α && (nat_lt (oy β) (ox β) && every (λ h. when (nat_lt β h) (nat_le (ox h) (oy h))) α)

  abbrev gamma_test : Option ℕ → Option ℕ → Bool
  gamma_test None β = false
  gamma_test (Some α) None = false
  gamma_test (Some α) (Some β) = between β α

  abbrev sigma_test : Option ℕ → Bool
  sigma_test None = false
  sigma_test (Some β) = some (λ s. nat_lt (oy s) (ox s) && between s β) β

  abbrev marks_test : Marks → Bool
  marks_test m = (alpha_test m.alpha && beta_test m.alpha m.beta) && (alike m.gamma (gamma_test m.alpha m.beta) && alike m.sigma (sigma_test m.beta))

  alpha_only : ((h : ℕ) → 48 ≤ h → ox h ≡ oy h) → (α : Option ℕ) → alpha_test α ≡ true → AlphaIs ox oy α
  alpha_only past None e = λ h. elim (cases_lt h 48) [
    | inl l ↦ (every_decides (λ h. ox h == oy h) (λ h. ox h ≡ oy h) (λ h. Decides-eqb (ox h) (oy h)) 48).0 e h l
    | inr l ↦ past h l
  ]
  alpha_only past (Some α) e =
      let p = and_parts (not (ox α == oy α)) (between α 48) e in (
        (Decides-not (ox α == oy α) (Decides-eqb (ox α) (oy α))).0 p.0,
        λ h l. elim (cases_lt h 48) [ inl m ↦ (between_decides α 48).0 p.1 h l m | inr m ↦ past h m ],
      )

  beta_only : (α β : Option ℕ) → beta_test α β ≡ true → BetaIs ox oy α β
  beta_only None None e = refl
  beta_only None (Some β) e = absurd (false≢true e)
  beta_only (Some α) None e = (every_decides (λ h. nat_le (ox h) (oy h)) (λ h. ox h ≤ oy h) (λ h. le_decides (ox h) (oy h)) α).0 e
  beta_only (Some α) (Some β) e =
      let p = and_parts (nat_lt β α) (nat_lt (oy β) (ox β) && every (λ h. when (nat_lt β h) (nat_le (ox h) (oy h))) α) e in
      let q = and_parts (nat_lt (oy β) (ox β)) (every (λ h. when (nat_lt β h) (nat_le (ox h) (oy h))) α) p.1 in (
        (Decides-ltb β α).0 p.0,
        (Decides-ltb (oy β) (ox β)).0 q.0,
        λ h l m. (every_decides (λ h. when (nat_lt β h) (nat_le (ox h) (oy h))) (λ h. β < h → ox h ≤ oy h)
            (λ h. when_decides (nat_lt β h) (nat_le (ox h) (oy h)) (Decides-ltb β h) (le_decides (ox h) (oy h))) α).0 q.1 h m l,
      )

  gamma_decides : (α β : Option ℕ) → Decides (gamma_test α β) (GammaSays ox oy α β)
  gamma_decides None β = no_decides (λ x. x)
  gamma_decides (Some α) None = no_decides (λ x. x)
  gamma_decides (Some α) (Some β) = between_decides β α

  sigma_decides : (β : Option ℕ) → Decides (sigma_test β) (SigmaSays ox oy β)
  sigma_decides None = no_decides (λ x. x)
  sigma_decides (Some β) =
      Decides-like (sigma_test (Some β)) (λ x. (x.0, x.1, x.2.0, x.2.1)) (λ x. (x.0, x.1, (x.2, x.3)))
      (some_decides (λ s. nat_lt (oy s) (ox s) && between s β) (λ s. (oy s < ox s) × Between ox oy s β)
      (λ s. Decides-and (nat_lt (oy s) (ox s)) (between s β) (Decides-ltb (oy s) (ox s)) (between_decides s β)) β)

  itself : (b : Bool) → Decides b (b ≡ true)
  itself b = (λ e. e, λ e. e)

  marks_only : ((h : ℕ) → 48 ≤ h → ox h ≡ oy h) → (m : Marks) → marks_test m ≡ true → Marked ox oy m
  marks_only past m e =
      let p = and_parts (alpha_test m.alpha && beta_test m.alpha m.beta) (alike m.gamma (gamma_test m.alpha m.beta) && alike m.sigma (sigma_test m.beta)) e in
      let q = and_parts (alpha_test m.alpha) (beta_test m.alpha m.beta) p.0 in
      let r = and_parts (alike m.gamma (gamma_test m.alpha m.beta)) (alike m.sigma (sigma_test m.beta)) p.1 in
      record {
        alpha_is = alpha_only past m.alpha q.0;
        beta_is = beta_only m.alpha m.beta q.1;
        gamma_is = (alike_decides m.gamma (gamma_test m.alpha m.beta) (itself m.gamma) (gamma_decides m.alpha m.beta)).0 r.0;
        sigma_is = (alike_decides m.sigma (sigma_test m.beta) (itself m.sigma) (sigma_decides m.beta)).0 r.1;
      }

-- how often a rank is the lowest of a cell of the row, and the highest
abbrev lows : List ℕ → List ℕ → ℕ → ℕ
lows cs row h = count by_rank h (map (lo cs) row)

abbrev highs : List ℕ → List ℕ → ℕ → ℕ
highs cs row h = count by_rank h (map (hi cs) row)

-- the marks of a rule
abbrev pub marks : List ℕ → List ℕ → List ℕ → Marks → Bool
marks cs left right m = meets cs left right && ((ranks (map (lo cs) left) && ranks (map (hi cs) right)) && marks_test (lows cs left) (highs cs right) m)

pub marked_only : (cs left right : List ℕ) → ready cs left right ≡ true → (m : Marks) → marks cs left right m ≡ true → MarksOf cs (rule left right) m
marked_only cs left right is_ready m e =
    let p : (meets cs left right ≡ true) × (((ranks (map (lo cs) left) && ranks (map (hi cs) right)) && marks_test (lows cs left) (highs cs right) m) ≡ true) = and_parts _ _ e in
    let q : ((ranks (map (lo cs) left) && ranks (map (hi cs) right)) ≡ true) × (marks_test (lows cs left) (highs cs right) m ≡ true) = and_parts _ _ p.1 in
    let r : (ranks (map (lo cs) left) ≡ true) × (ranks (map (hi cs) right) ≡ true) = and_parts _ _ q.0 in
    record {
      fit = fit cs left right is_ready;
      choice = (meets_decides cs left right is_ready).0 p.0;
      ends = ends cs left right is_ready;
      marks_are = only_marks (lows cs left) (highs cs right) m
          (marks_only (lows cs left) (highs cs right)
          (λ h l. count_past 48 h l (map (lo cs) left) (ranks_only (map (lo cs) left) r.0) ∙ sym (count_past 48 h l (map (hi cs) right) (ranks_only (map (hi cs) right) r.1)))
          m q.1);
    }
