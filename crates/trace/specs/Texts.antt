-- The texts that are printed. Assumes nothing.
use Rattle.std.specs.Prelude.{ℕ, Bool, cond, List, [], ◌++◌, codes, decimal, ◌==◌}
use Rattle.basic.specs.declared.types.PhysicalType.{PhysicalType}
use Rattle.basic.specs.declared.types.PhysicalType.TheVariants as physical
use Rattle.basic.specs.Names.{physical_name}
use Rattle.schema.specs.declared.entry.Leaf.{Leaf}
use Rattle.plan.specs.declared.refusal.BuildRefusal.{BuildRefusal}
use Rattle.plan.specs.Refusals.{refusal_number, reason}

-- A number of things: "1 node", "2 nodes".
abbrev pub count_text : ℕ → List ℕ → List ℕ
count_text count thing = decimal count ++ (codes " " ++ (thing ++ cond (count == 1) [] (codes "s")))

-- The length of a type that has one, in parentheses.
abbrev pub length_text : PhysicalType → ℕ → List ℕ
length_text physical.Boolean n = []
length_text physical.Int32 n = []
length_text physical.Int64 n = []
length_text physical.Int96 n = []
length_text physical.Float n = []
length_text physical.Double n = []
length_text physical.ByteArray n = []
length_text physical.FixedLenByteArray n = codes "(" ++ (decimal n ++ codes ")")

-- What follows a type that is Float16.
abbrev pub float16_text : Bool → List ℕ
float16_text is = cond is (codes " Float16") []

-- A leaf's type: its name, its length, and whether it is Float16.
abbrev pub type_text : Leaf → List ℕ
type_text l = physical_name l.physical ++ (length_text l.physical l.length ++ float16_text l.float16)

-- The line of a refusal: its number, no column and no place, and the reason.
abbrev pub refused_line : BuildRefusal → List ℕ
refused_line e = codes "refused " ++ (decimal (refusal_number e) ++ (codes " 0 0: " ++ (reason e ++ codes "\n")))
