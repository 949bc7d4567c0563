-- The line of a script's configuration.
use Rattle.rb_runs.proofs.Words.{◌≡◌, ◌+◌, ℕ, false, List, [], ◌∷◌, Some, None, refl, sym, ap, ◌∙◌, arith, Settings, SeenWorld, opened}
use Rattle.rb_runs.proofs.Words.{config_on, LinesOutcome, after_text, is_blank, is_long, commands_from, script_from, script_outcome}
use Rattle.rb_runs.proofs.Words.{session_rest, TakesLine, makes_nothing}
use Rattle.rb_runs.specs.declared.script.session.Session.{Session}
use Rattle.rb_runs.proofs.Unanswered.{nothing}

-- the outcome of the lines after, by this world
abbrev behind : SeenWorld → ℕ → List (List ℕ) → LinesOutcome
behind w n ls = script_outcome w (commands_from w.settings (n + 1) ls)

follows : (s : Settings) (n : ℕ) (l : List ℕ) (ls : List (List ℕ)) → is_long l ≡ false → is_blank l ≡ false → config_on l ≡ Some s
    → script_from n (l ∷ ls) ≡ behind (opened s) n ls
follows s n l ls short some is = rw (short, some, is) refl

-- it opens its world, and asks for no reply
pub opens : (x : Session) (s : Settings) (l : List ℕ) → is_long l ≡ false → is_blank l ≡ false → config_on l ≡ Some s
    → x.world ≡ opened s → TakesLine session_rest makes_nothing None (Some x) l [] 0
opens x s l short some is world = record {
  follows = λ n ls. follows s n l ls short some is ∙ sym (nothing (behind (opened s) n ls))
      ∙ ap (λ w. after_text [] 0 (behind w n ls)) (sym world);
  makes = λ n ls. refl;
  one = omega arith;
}
