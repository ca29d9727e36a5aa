-- The bounds of a rule, from the counts of its best ranks.
use Rattle.std.proofs.Common.{◌≡◌, ℕ, ◌+◌, ◌^◌, ◌<◌, ◌≤◌, ◌⊎◌, List, ◌++◌, length, Some, None, Option, MatchOption, MatchResult, sym, ◌∙◌, subst, subst₂, inl, inr, arith, length-append}
use Rattle.std.specs.Prelude.{◌↔◌}
use Rattle.std.specs.Option.{ok_or}
use Rattle.std.specs.List.{Contains}
use mathlib.Core.Path.{fun_ext}
use Rattle.std.proofs.Math.Pow.{pow_mono}
use Rattle.std.proofs.lemmas.Bool.{cases_lt}
use Rattle.std.proofs.lemmas.List.{get_or_past, get_or_append_left, get_or-append-add}
use Rattle.domains.specs.Sets.{In}
use Rattle.loads.specs.Counts.{Counted}
use Rattle.loads.specs.Kinds.{by_rank}
use Rattle.loads.specs.Loads.{count}
use Rattle.loads.proofs.FromTop.{count_past}
use Rattle.marking.specs.Bounds.{Loaded, BoundsOf, Outweighs}
use Rattle.marking.specs.Marks.{occurs, OnlyMarks}
use Rattle.marking.specs.declared.bounds.Bounds.{Bounds}
use Rattle.stores.specs.Stores.{Formed}
use Rattle.rules.specs.Ends.{Ends}
use Rattle.rules.specs.Families.{family}
use Rattle.rules.specs.Filtered.{rule, Unfiltered}
use Rattle.rules.specs.Rows.{Below, Fit}
use Rattle.rules.specs.Rules.{Supported}
use Rattle.rules.specs.declared.faults.FilterFault.TheVariants.{NothingLeft}
use Rattle.filtering.specs.Bounded.{Bounded, side_row, kept}
use Rattle.filtering.specs.Sides.{lowest, highest, bests}
use Rattle.filtering.specs.declared.sides.Side.{Side}
use Rattle.filtering.specs.declared.sides.Side.TheVariants.{Left, Right}
use Rattle.filtering.proofs.Best.{ends_of}
use Rattle.filtering.proofs.Joined.{at_place, none_meets, some_meets, left_kept, right_kept}

-- counts of 48 ranks tell how often any rank occurs
pub occurs_is : (xs ys : List ℕ) → length xs ≡ 48 → Counted (occurs xs) 48 ys → occurs xs ≡ (λ h. count by_rank h ys)
occurs_is xs ys l c = fun_ext (λ h. go h (cases_lt h 48))
  where
    go : (h : ℕ) → (h < 48) ⊎ (48 ≤ h) → occurs xs h ≡ count by_rank h ys
    go h (inl m) = c.counts h m
    go h (inr m) = get_or_past xs h 0 (omega arith) ∙ sym (count_past 48 h m ys c.bounded)

pub below_left : (n : ℕ) (l r : List ℕ) → Below n (l ++ r) → Below n l
below_left n l r b i h = subst (λ (x : ℕ). x < n) (get_or_append_left l r 0 i h) (b i (omega (arith, h, length-append l r)))

pub below_right : (n : ℕ) (l r : List ℕ) → Below n (l ++ r) → Below n r
below_right n l r b i h = subst (λ (x : ℕ). x < n) (get_or-append-add l r i 0) (b (length l + i) (omega (arith, h, length-append l r)))

-- a cell of a row is one of the store's
pub named_below : (n : ℕ) (row : List ℕ) (c : ℕ) → Below n row → Contains row c → c < n
named_below n row c b m = subst (λ (x : ℕ). x < n) (at_place row c m) (b m.0 m.1)

module _ {holds : ℕ → ℕ → Type 0} {d : ℕ} {cs : List ℕ} (formed : Formed holds d cs) where
  -- a cell's set has a rank, and all its ranks are below 48
  pub small : (c : ℕ) → c < length cs → (0 < family cs c) × (family cs c < 2 ^ 48)
  small c l =
      let p : 2 ^ d ≤ 2 ^ 48 = pow_mono formed.narrow in
      let e = formed.each c l in
      (e.some, omega (arith, p, e.below))

  module _ {left right : List ℕ} (lows highs : List ℕ) (fit : Fit (length cs) left right) (ll : length lows ≡ 48) (hl : length highs ≡ 48)
      (lc : Counted (occurs lows) 48 (bests Left cs left)) (hc : Counted (occurs highs) 48 (bests Right cs right)) where
    ends : Ends (family cs) (rule left right) (λ c. lowest (family cs c)) (λ c. highest (family cs c))
    ends = ends_of (family cs) (rule left right) (λ x m. small x (named_below (length cs) (left ++ right) x fit.below m))

    counted : Loaded (occurs lows) (occurs highs) (bests Left cs left) (bests Right cs right)
    counted = record { left_counted = lc; right_counted = hc }

    -- what is decided of the counts is decided of the rule
    pub decided : (b : Option Bounds) → MatchOption b (Outweighs (occurs lows) (occurs highs)) (λ b. BoundsOf (occurs lows) (occurs highs) b)
        → MatchResult (ok_or b NothingLeft) (λ b. Bounded cs (rule left right) b) (λ e. Unfiltered cs (rule left right) e)
    decided None w = (fit, none_meets ends fit.apart counted w)
    decided (Some b) is = record {
      marks = record {
        fit = fit;
        choice = some_meets ends fit.apart counted is;
        ends = ends;
        marks_are = subst₂ (λ (ox oy : ℕ → ℕ). OnlyMarks ox oy b.marks) (occurs_is lows (bests Left cs left) ll lc) (occurs_is highs (bests Right cs right) hl hc) is.marks_are;
      };
      each = each;
    }
      where
        each : (side : Side) (c r : ℕ) → Contains (side_row side (rule left right)) c → (In (kept side b (family cs c)) r ↔ Supported (family cs) (rule left right) c r)
        each Left c r m = left_kept ends fit.apart counted is c r m
        each Right c r m = right_kept ends fit.apart counted is c r m
