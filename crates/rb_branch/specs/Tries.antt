-- A list of tries, as a posting keeps it.
use Rattle.std.specs.Prelude.{List, [], ◌∷◌, ◌++◌}
use Rattle.rb_branch.specs.Postings.{Tried}
use Rattle.rb_branch.specs.declared.posting.Tries.{Tries}
use Rattle.rb_branch.specs.declared.posting.Tries.TheVariants.{Nothing, OneMore}

-- in order: the last is after those before it
abbrev pub tries_of : Tries → List Tried
tries_of Nothing = []
tries_of (OneMore before to message took) = before.value ++ (record { to = to.value; message = message.value; took = took.value }) ∷ []
