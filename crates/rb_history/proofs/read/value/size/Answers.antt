use Rattle.rb_history.proofs.Words.{◌≡◌, Some, rules, sym, ◌∙◌, as_object, view}
use Rattle.serde_json.specs.View.{members_view}
use Rattle.serde_json.proofs.Views.{members_len-members_view}
use Rattle.rb_history.proofs.Shapes.{size_is}
use Rattle.rb_history.proofs.read.value.size.Goals as goal

pub returns-in-Some : goal.returns-in-Some
returns-in-Some c =
    let entries = c.in-Some.members.now.entries in
    let found : as_object (view c.args.value.now) ≡ Some (members_view entries) = search rules in
    c.len.ensures.len ∙ sym (members_len-members_view entries) ∙ sym (size_is _ _ found)
