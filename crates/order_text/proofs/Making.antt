-- What a list of numbers is written as.
use Rattle.std.proofs.Common.{ℕ, List, Ok, Err, Option, Result, OnOk, ◌∙◌, sym, subst}
use Rattle.std.specs.declared.fmt.Error.{Error}
use Rattle.std.specs.declared.fmt.Formatter.{Formatter}
use Rattle.std.specs.Fmt.{HasWritten, IsPlainFormatter, WritesOnOk}
use Rattle.std.specs.Iterator.{Drains}
use Rattle.std.proofs.lemmas.Iterator.{YieldsList, items_from_drains}
use Rattle.std.proofs.lemmas.List.{map-id}
use Rattle.order_text.specs.Words.{listed}

-- where an iterator always gives the numbers ns, all of them are written
pub all_listed : {S W : Type 0} {steps : S → Option ℕ → S → Type 0} {took : W → List ℕ → W → Type 0} {s : S} {f g : Formatter W} (r : Result (Unit {0}) Error) (ns : List ℕ) →
    OnOk r ((xs : List ℕ) × Drains steps s xs × (IsPlainFormatter f → HasWritten took f (listed xs) g)) → YieldsList steps (λ x. x) s ns → WritesOnOk took f r (listed ns) g
all_listed {took = took} {f = f} {g = g} (Ok u) ns w all = λ plain ok.
    let d = w.1 in
    let same = sym (map-id w.0) ∙ items_from_drains w.0 (d.1.0, d.1.1, λ _. (d.0, d.1.2)) all in
    subst (λ (xs : List ℕ). HasWritten took f (listed xs) g) same (w.2 plain)
all_listed (Err e) ns w all = λ plain ok. absurd cc
