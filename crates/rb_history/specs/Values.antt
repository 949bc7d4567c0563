-- JSON values: how numbers, names and the shapes of lines are written, and what is read from them.
use Rattle.std.specs.Prelude.{ℕ, ℤ, List, map, Option, Some, None, nat_lt, if◌then◌else◌, option_and_then}
use Rattle.serde_json.specs.Data.{Data, null, boolean, number, string, array, object, unsigned, Items, no_items, item, member, no_members}
use Rattle.serde_json.specs.Events.{members_len}
use Rattle.serde_json.specs.Find.{as_array, as_number, as_str, as_u64, of_integer}
use Rattle.serde_json.specs.View.{items_of}
use Rattle.rb_shadow.specs.declared.op_name.OpName.{OpName}
use Rattle.rb_shadow.specs.NameText.{name_of, name_text}

-- a number
abbrev pub number_json : ℕ → Data
number_json n = number (unsigned n)

-- a whole number, with its sign if it is negative
abbrev pub integer_json : ℤ → Data
integer_json z = number (of_integer z)

-- an operation's name
abbrev pub name_json : OpName → Data
name_json x = string (name_text x)

-- a list of what each of some things is written as, in their order
abbrev pub list_json : {A : Type 0} → (A → Data) → List A → Data
list_json written xs = array (items_of (map written xs))

-- a list of two
abbrev pub pair_json : Data → Data → Data
pair_json first second = array (item first (item second no_items))

-- a list of three
abbrev pub three_json : Data → Data → Data → Data
three_json first second third = array (item first (item second (item third no_items)))

-- an object of one member
abbrev pub one_json : List ℕ → Data → Data
one_json key value = object (member key value no_members)

-- the number below the bound that a value is: a number with a sign, a point or an exponent is none
abbrev pub number_below : ℕ → Data → Option ℕ
number_below bound d = option_and_then (λ n. if nat_lt n bound then Some n else None) (option_and_then as_u64 (as_number d))

-- the operation's name that a value is
abbrev pub name_at : Data → Option OpName
name_at d = option_and_then name_of (as_str d)

-- the two items of a list of two
abbrev pub pair_in : Items → Option (Data × Data)
pair_in no_items = None
pair_in (item a no_items) = None
pair_in (item a (item b no_items)) = Some (a, b)
pair_in (item a (item b (item c ds))) = None

abbrev pub pair_of : Data → Option (Data × Data)
pair_of null = None
pair_of (boolean b) = None
pair_of (number n) = None
pair_of (string s) = None
pair_of (array ds) = pair_in ds
pair_of (object ms) = None

-- the three items of a list of three
abbrev pub three_in : Items → Option (Data × Data × Data)
three_in no_items = None
three_in (item a no_items) = None
three_in (item a (item b no_items)) = None
three_in (item a (item b (item c no_items))) = Some (a, b, c)
three_in (item a (item b (item c (item d ds)))) = None

abbrev pub three_of : Data → Option (Data × Data × Data)
three_of d = option_and_then three_in (as_array d)

-- how many members an object has
abbrev pub size_of : Data → ℕ
size_of null = 0
size_of (boolean b) = 0
size_of (number n) = 0
size_of (string s) = 0
size_of (array ds) = 0
size_of (object ms) = members_len ms

-- what a member gives if it is there, and else what comes next
abbrev pub either : {A : Type 0} → Option Data → (Data → Option A) → Option A → Option A
either None f next = next
either (Some d) f next = f d
