use Rattle.std.proofs.lemmas.List.Elements.{All-set}
use Rattle.rb_money.specs.Words.{IsShort}
use Rattle.rb_money.proofs.Words.{is_short}
use Rattle.rb_money.proofs.short_names.ShortNames.put.Goals as goal

pub returns-then-slot-len : goal.returns-then-slot-len
returns-then-slot-len c names all here =
    let word = c.word_of-word in
    All-set (IsShort names) c.args.self.now.slots.items c.slot_of-slot.result (word.result, c.args.place)
    (is_short names c.args.name.now word.result c.args.place word.ensures.bytes word.ensures.word here) all
