-- The table of byte classes against Unicode's table, computed at each entry in each state. Assumes nothing.
use Rattle.std.proofs.Common.{◌≡◌, ℕ, ◌+◌, ◌*◌, ◌/◌, ◌%◌, ◌<◌, List, [], ◌∷◌, map, length, get_or, None, sym, ap, ◌∙◌, zero-add, arith}
use Rattle.std.specs.List.{range_with_len}
use Rattle.std.proofs.lemmas.List.{get_or-map, length-map}
use Rattle.std.proofs.lemmas.List.FromFn.{get_or-map-range_with_len, length-map-range_with_len}
use Rattle.utf8.specs.declared.class.ByteClass.{ByteClass}
use Rattle.utf8.specs.declared.class.ByteClass.TheVariants.{Ascii}
use Rattle.utf8.specs.declared.state.State.{State}
use Rattle.utf8.specs.declared.state.State.TheVariants.{Sequence, One, Two, Three, TwoNotOverlong, TwoNotSurrogate, ThreeNotOverlong, ThreeInRange, Nothing}
use Rattle.utf8.specs.Unicode.{Due, follow}
use Rattle.utf8.specs.States.{awaits, first_of, Alike}

-- What the class of each byte makes due in a state, row by row.
abbrev by_class : State → List (List ByteClass) → List (List Due)
by_class s rows = map (map (λ class. follow (awaits s) (first_of class))) rows

-- What each byte makes due in a state, row by row.
abbrev by_byte : State → List (List Due)
by_byte s = map (λ row. map (follow (awaits s)) (range_with_len (8 * row) 8)) (range_with_len 0 32)

abbrev states : List State
states = Sequence ∷ One ∷ Two ∷ Three ∷ TwoNotOverlong ∷ TwoNotSurrogate ∷ ThreeNotOverlong ∷ ThreeInRange ∷ Nothing ∷ []

-- The rule: in every state the same is due after a byte and after the first byte of its class.
abbrev Rule : List (List ByteClass) → Type 0
Rule rows = map (λ s. by_class s rows) states ≡ map by_byte states

in_state : (rows : List (List ByteClass)) → Rule rows → (s : State) → by_class s rows ≡ by_byte s
in_state rows rule Sequence = ap (λ l. get_or l 0 []) rule
in_state rows rule One = ap (λ l. get_or l 1 []) rule
in_state rows rule Two = ap (λ l. get_or l 2 []) rule
in_state rows rule Three = ap (λ l. get_or l 3 []) rule
in_state rows rule TwoNotOverlong = ap (λ l. get_or l 4 []) rule
in_state rows rule TwoNotSurrogate = ap (λ l. get_or l 5 []) rule
in_state rows rule ThreeNotOverlong = ap (λ l. get_or l 6 []) rule
in_state rows rule ThreeInRange = ap (λ l. get_or l 7 []) rule
in_state rows rule Nothing = ap (λ l. get_or l 8 []) rule

-- One entry of a table whose rows are known.
entry : {A B : Type 0} (f : A → B) (g : ℕ → B) (rows : List (List A)) (i j b : ℕ) (a : A) (d : B)
    → map (map f) rows ≡ map (λ row. map g (range_with_len (8 * row) 8)) (range_with_len 0 32) → i < 32 → j < 8 → 8 * i + j ≡ b
    → g b ≡ f (get_or (get_or rows i []) j a)
entry f g rows i j b a d rule hi hj is =
    let long : length rows ≡ 32 = sym (length-map rows (map f)) ∙ ap length rule ∙ length-map-range_with_len (λ row. map g (range_with_len (8 * row) 8)) 0 32 in
    let row : map f (get_or rows i []) ≡ map g (range_with_len (8 * i) 8) =
    sym (get_or-map (map f) rows i [] [] (omega arith))
    ∙ ap (λ l. get_or l i []) rule
    ∙ get_or-map-range_with_len (λ row. map g (range_with_len (8 * row) 8)) 0 32 i i [] hi (zero-add i)
    in
    let wide : length (get_or rows i []) ≡ 8 = sym (length-map (get_or rows i []) f) ∙ ap length row ∙ length-map-range_with_len g (8 * i) 8 in
    sym (get_or-map-range_with_len g (8 * i) 8 j b d hj is) ∙ ap (λ l. get_or l j d) (sym row) ∙ get_or-map f (get_or rows i []) j a d (omega arith)

pub alike : (rows : List (List ByteClass)) → Rule rows → (b : ℕ) → b < 256 → Alike b (first_of (get_or (get_or rows (b / 8) []) (b % 8) Ascii))
alike rows rule b h s =
    entry (λ class. follow (awaits s) (first_of class)) (follow (awaits s)) rows (b / 8) (b % 8) b Ascii None (in_state rows rule s) (omega arith) (omega arith) (omega arith)
