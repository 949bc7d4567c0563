-- Which held operation a site applies next.
use Rattle.std.specs.Prelude.{◌≡◌, Some}
use Rattle.rb_shadow.specs.Operations.{clock_of, find_in}
use Rattle.rb_shadow.specs.declared.op_name.OpName.{OpName}
use Rattle.rb_shadow.specs.declared.shadow.Shadow.{Shadow}
use Rattle.rb_inbox.specs.Held.{IsFirstReady, IsReady}
use Rattle.rb_site.specs.Events.{ModelSite}

-- of the operations that the site holds and whose past it applied this is the first: they go by home, of one home the
-- blue ones before the red ones, and of one colour by number
abbrev pub IsNextName : ModelSite → OpName → Type 0
IsNextName t x = IsFirstReady t.held (clock_of t.ops) x

-- the site holds no operation whose past it applied
abbrev pub NoneIsReady : ModelSite → Type 0
NoneIsReady t = (x : OpName) (v : Shadow) → find_in t.held x ≡ Some v → ¬ IsReady (clock_of t.ops) v
