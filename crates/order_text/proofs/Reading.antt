-- One more line of a listing, and its ends.
use Rattle.std.proofs.Common.{◌≡◌, ℕ, ◌+◌, ◌<◌, ◌≤◌, List, ◌++◌, length, codes, Ok, Err, Result, sym, ap, ◌∙◌, arith}
use Rattle.std.proofs.lemmas.List.{append_assoc, append-nil}
use Rattle.std.specs.List.{AllByRecursion}
use Rattle.orders.specs.declared.kinds.OrderFault.{OrderFault}
use Rattle.orders.specs.declared.surveys.Survey.{Survey}
use Rattle.orders.specs.Said.{Said}
use Rattle.orders.specs.Parse.{ended, found, faulty, next_of, place_after, number_of, place_of}
use Rattle.orders.specs.Format.{encode, Bytes, Fits, whole, broken, Reads}
use Rattle.orders.specs.Surveyed.{Stops, Surveyed}
use Rattle.orders.proofs.Surveying.{Leads, turn, ends, breaks}
use Rattle.orders.proofs.Files.{taken, format}
use Rattle.order_text.specs.Words.{line_of}
use Rattle.order_text.specs.Listing.{lines_from, Lines, Listed, closing, ending}

-- the text, and then the lines of the orders from p on, are the lines of all the orders
abbrev pub Lists : ℕ → List ℕ → List Said → List Said → Type 0
Lists p text ts ss = text ++ lines_from p ss ≡ lines_from 0 ts

-- one more line
pub one_more : (fs gs : List ℕ) (p q r : ℕ) (was new : List ℕ) (s : Said) → Bytes fs → gs ≡ fs → found s ≡ next_of gs p → q ≡ place_after gs p → r ≡ p →
    new ≡ was ++ (line_of r s ++ codes "\n") → Leads fs p (Lists p was) → (p < q) × Leads fs q (Lists q new)
one_more fs gs p q r was new s h g i j k l leads =
    let a : next_of fs p ≡ found s = ap (λ (x : List ℕ). next_of x p) (sym g) ∙ sym i in
    let far : q ≡ p + length (encode s) = j ∙ ap (λ (x : List ℕ). place_after x p) g ∙ (taken fs p s h a).2 in
    let line : List ℕ = line_of p s ++ codes "\n" in
    let is : new ≡ was ++ line = l ∙ ap (λ (x : ℕ). was ++ (line_of x s ++ codes "\n")) k in
    turn fs gs p q s g i j leads
    (λ ts ss e. ap (λ (x : List ℕ). x ++ lines_from q ss) is ∙ append_assoc was line (lines_from q ss) ∙ ap (λ (x : ℕ). was ++ (line ++ lines_from x ss)) far ∙ e)

pub at_end : (fs gs : List ℕ) (p : ℕ) (text : List ℕ) → gs ≡ fs → ended ≡ next_of gs p → Leads fs p (Lists p text) → Lines fs text
at_end fs gs p text g i leads = let t = ends fs gs p g i leads in (t.0, whole p, t.1, sym (append-nil text) ∙ t.2)

pub at_fault : (fs gs : List ℕ) (p k q : ℕ) (text : List ℕ) → gs ≡ fs → faulty k q ≡ next_of gs p → Leads fs p (Lists p text) → Lines fs text
at_fault fs gs p k q text g i leads = let t = breaks fs gs p k q g i leads in (t.0, broken k q, t.1, sym (append-nil text) ∙ t.2)

-- a survey tells how the file is read
survey_reads : (fs : List ℕ) (ss : List Said) (stop : Result ℕ OrderFault) → Bytes fs → AllByRecursion Fits ss → Stops fs ss stop → Reads fs 0 ss (ending stop)
survey_reads fs ss (Ok p) h fits s = (format.whole_file fs ss p h).1 (fits, s.0, s.1)
survey_reads fs ss (Err f) h fits s = (format.broken_file fs ss (number_of f) (place_of f) h).1 (fits, s.0, s.1, s.2)

pub whole_listing : (fs text new : List ℕ) (r : Survey) → Bytes fs → length fs ≤ 8192 → Lines fs text → Surveyed fs r → new ≡ text ++ closing (ending r.stop) r.orders → Listed fs new
whole_listing fs text new r h short lines s e =
    let last : List ℕ = closing (ending r.stop) r.orders in
    let read = survey_reads fs s.0 r.stop h s.2 s.3 in
    let same = format.one_reading fs lines.0 s.0 lines.1 (ending r.stop) lines.2 read in
    let a : text ≡ lines_from 0 s.0 = lines.3 ∙ ap (lines_from 0) same.0 in (
      λ long. absurd (omega arith),
      λ _. (s.0, ending r.stop, read, e ∙ ap (λ (x : List ℕ). x ++ last) a ∙ ap (λ (n : ℕ). lines_from 0 s.0 ++ closing (ending r.stop) n) (sym s.1)),
    )
