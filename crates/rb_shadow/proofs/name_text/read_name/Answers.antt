use Rattle.rb_shadow.proofs.Public.NameOf.{value_is}
use Rattle.rb_shadow.proofs.name_text.read_name.Goals as goal

pub returns-clause-value : goal.returns-clause-value
returns-clause-value c = value_is c.args.text.now c.parse_name.result c.parse_name.ensures.found c.parse_name.ensures.range
    c.parse_name.ensures.only
