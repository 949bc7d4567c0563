-- The parts of a history's line, as they are read: kinds, lists of six, and the value of a key.
use Rattle.std.specs.Prelude.{ℕ, List, Option, Some, None, option_and_then}
use Rattle.serde_json.specs.Data.{Data, Items, no_items, item}
use Rattle.serde_json.specs.Find.{as_array, as_str, get}
use Rattle.rb_shadow.specs.declared.label.Label.{Label}
use Rattle.rb_history.specs.KindWords.{label_of_word}

-- the kind that a value is
abbrev pub label_at : Data → Option Label
label_at d = option_and_then label_of_word (as_str d)

-- the six items of a list of six
abbrev pub six_in : Items → Option (Data × Data × Data × Data × Data × Data)
six_in no_items = None
six_in (item a no_items) = None
six_in (item a (item b no_items)) = None
six_in (item a (item b (item c no_items))) = None
six_in (item a (item b (item c (item d no_items)))) = None
six_in (item a (item b (item c (item d (item e no_items))))) = None
six_in (item a (item b (item c (item d (item e (item f no_items)))))) = Some (a, b, c, d, e, f)
six_in (item a (item b (item c (item d (item e (item f (item g ds))))))) = None

abbrev pub six_of : Data → Option (Data × Data × Data × Data × Data × Data)
six_of d = option_and_then six_in (as_array d)

-- what the value of a key gives
abbrev pub field : {A : Type 0} → List ℕ → (Data → Option A) → Data → Option A
field key f d = option_and_then f (get key d)
