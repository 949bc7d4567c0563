-- The messages are the items of the list, if there is one.
use Rattle.std.proofs.Common.{rules}
use Rattle.serde_json.specs.View.{view}
use Rattle.rb_capi.proofs.Messages.{no_list, no_sends, of_list}
use Rattle.rb_capi.proofs.sent.messages_in.Goals as goal

pub returns-in_default : goal.returns-in_default
returns-in_default c = no_sends (view c.args.answer.now) (search rules)

pub returns-in-Some-as_array : goal.returns-in-Some-as_array
returns-in-Some-as_array c = rw c.as_slice.ensures.value
    (of_list (view c.args.answer.now) (view c.in-Some.sends.now) c.in-Some-as_array.messages.now.items (search rules) (search rules))

pub returns-in-None : goal.returns-in-None
returns-in-None c = no_list (view c.args.answer.now) (view c.in-Some.sends.now) (search rules) (search rules)
