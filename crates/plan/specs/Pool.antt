-- The names that a pool holds. Assumes nothing.
use Rattle.std.specs.Prelude.{ℕ, List, map, take}
use Rattle.plan.specs.declared.pool.NamePool.{NamePool}

-- a name's first 255 bytes; a name that was read from an image has no more
abbrev pub short_name : List ℕ → List ℕ
short_name name = take 255 name

-- the names that a pool holds, in order
abbrev pub names_held : NamePool → List (List ℕ)
names_held pool = map (λ n. n.items) pool.names.items
