use Rattle.rb_world.proofs.Headline.{holds}
use Rattle.rb_world.proofs.laws.laws_always_hold.Goals as goal

pub returns : goal.returns
returns c = record {
  headline = λ s es some few own. (holds s es some few own).0;
  others = λ s es some few own. (holds s es some few own).1;
}
