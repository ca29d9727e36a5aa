use Rattle.std.proofs.Common.{List, ℕ, sym, subst}
use Rattle.load_text.specs.Entries.{WritesNumber}
use Rattle.load_text.proofs.Writing.{unsigned_utf8}
use Rattle.load_text.proofs.entries.HandEntry.parse.Goals as goal

pub returns-in_err-class : goal.returns-in_err-class
returns-in_err-class c =
    rw c.from_residual-in_err-class.ensures (λ h w.
    let class = subst (λ (front : List ℕ). WritesNumber 8 front h.class) (sym c.in_ok-front.ensures.1) w.class in
    (c.in_err-class.ensures (unsigned_utf8 c.in_ok-front.front.now class.numeral)).1.0 (class.numeral, class.fits))

pub returns-in_err-year : goal.returns-in_err-year
returns-in_err-year c =
    rw c.from_residual-in_err-year.ensures (λ h w.
    let year = subst (λ (back : List ℕ). WritesNumber 16 back h.year) (sym c.in_ok-front.ensures.2) w.year in
    (c.in_err-year.ensures (unsigned_utf8 c.in_ok-front.back.now year.numeral)).1.0 (year.numeral, year.fits))
