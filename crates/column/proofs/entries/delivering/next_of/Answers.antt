use Rattle.std.proofs.Common.{◌≡◌, ℕ, ◌-◌, List, length, take, drop, Option, position, sym, ap, ◌∙◌, subst}
use Rattle.std.proofs.lemmas.List.{take_rest}
use Rattle.column.specs.declared.entry.Entry.{Entry}
use Rattle.column.specs.Entries.{of_column}
use Rattle.column.specs.Gathering.{Sought}
use Rattle.column.proofs.Walking.{sought, sought-none}
use Rattle.column.proofs.entries.delivering.next_of.Goals as goal

-- what is looked at are the entries from the place on
looked : (es : List Entry) (c p : ℕ) (rest : List Entry) (r : Option ℕ) → rest ≡ take (length es - p) (drop p es)
    → r ≡ position (of_column c) rest → position (of_column c) (drop p es) ≡ r
looked es c p rest r is found = sym (found ∙ ap (position (of_column c)) (is ∙ take_rest es p))

pub returns-in_err-i : goal.returns-in_err-i
returns-in_err-i c =
    let a = c.args in
    let none = looked a.entries.now a.column a.from _ _ c.in_ok-get.ensures.lookup.0.2 c.passed.ensures.first ∙ c.in_err-i.was in
    subst (Sought a.entries.now a.column a.from) (sym c.from_residual-in_err-i.ensures) (sought-none a.column a.entries.now a.from none)

pub returns : goal.returns
returns c =
    let a = c.args in
    sought a.column a.entries.now a.from c.in_ok-i.i (looked a.entries.now a.column a.from _ _ c.in_ok-get.ensures.lookup.0.2 c.passed.ensures.first ∙ c.in_ok-i.was)
