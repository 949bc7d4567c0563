-- A bank that C keeps: all sites of a configuration with their messages, and the line of the last answer.
use Rattle.std.specs.Prelude.{ℕ, List, [], Option, Some, None}
use Rattle.rb_money.specs.Settings.{Settings}
use Rattle.rb_site.specs.declared.world_event.WorldEvent.{WorldEvent}
use Rattle.rb_history.specs.Replies.{line}
use Rattle.rb_world.specs.Laws.{SeenWorld, next_reply, next_world, opened}

-- the world, and the text of the last answer
pub record SeenBank : Type 0 where
  pub world : SeenWorld
  pub answer : List ℕ

-- before any event: nothing was answered
abbrev pub first_bank : Settings → SeenBank
first_bank s = record { world = opened s; answer = [] }

-- after a command: the world is that after it, and the answer is the line of its reply
abbrev pub next_bank : SeenBank → WorldEvent → SeenBank
next_bank b c = record { world = next_world b.world c; answer = line (next_reply b.world c) }

-- the text that is kept: the last answer's, and none if there is no bank
abbrev pub kept_answer : Option SeenBank → List ℕ
kept_answer None = []
kept_answer (Some b) = b.answer
