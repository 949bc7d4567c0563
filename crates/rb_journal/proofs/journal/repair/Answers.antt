use Rattle.std.proofs.Common.{◌≡◌, ℕ, List, [], ◌∷◌, ◌++◌, length, take, inl, sym, ◌∙◌, ap, subst, arith, rules}
use Rattle.std.specs.List.{concat}
use Rattle.std.proofs.lemmas.Result.{on_ok_weaker}
use Rattle.rb_journal.specs.Host.{Cut}
use Rattle.rb_journal.specs.Journal.{IsRepaired}
use Rattle.rb_journal.specs.Lines.{recovered}
use Rattle.rb_journal.specs.Quiet.{Quiet}
use Rattle.rb_journal.proofs.Crash.{cut_done, torn_end, written_at_end}
use Rattle.rb_journal.proofs.Public.Seals.{untouched}
use Rattle.rb_journal.proofs.Quiet.{one_call, stopped, then_on}
use Rattle.rb_journal.proofs.journal.repair.Given.{Over}
use Rattle.rb_journal.proofs.journal.repair.Goals.{After-write_again, After-cut_off, In_ok-cut_off}
use Rattle.rb_journal.proofs.journal.repair.Goals as goal

-- the bytes are written again
again : (g : Over) (c : goal.After-write_again g)
    → Quiet g.H.Host (IsRepaired c.args.bytes.now) c.args.host.now c.write_again.new.self c.write_again.result
again g c =
    let bytes = c.args.bytes.now in
    let here : (f : List ℕ) → f ≡ g.H.Host.content c.args.host.now → IsRepaired bytes f =
    λ f is. subst (IsRepaired bytes) (sym (is ∙ sym c.requires.bytes)) (untouched bytes) in
    one_call (λ f. f ≡ g.H.Host.content c.args.host.now)
    (λ f d left. let now = g.met.H.Host.only_now c.args.host.now f d left in (here f (c.requires.durable now.0 f now.1), now.2))
    c.write_again.ensures.time here c.write_again.ensures.usable c.write_again.ensures.output c.write_again.ensures.reported
    c.write_again.ensures.cause

-- then the end is cut off
cut : (g : Over) (c : goal.After-cut_off g)
    → Quiet g.H.Host (IsRepaired c.args.bytes.now) c.args.host.now c.cut_off.new.host c.cut_off.result
cut g c =
    then_on (again g (goal.at.After-cut_off g c).After-write_again) c.cut_off.ensures.quiet
    (λ f at. inl (subst (λ (n : ℕ). Cut n c.args.bytes.now f) c.requires.end
    (subst (λ (d : List ℕ). Cut c.args.end d f) (c.write_again.ensures.content ∙ sym c.requires.bytes) at)))

-- and the file is the lines alone
is_cut : (g : Over) (c : goal.In_ok-cut_off g) → g.H.Host.content c.cut_off.new.host ≡ concat (recovered c.args.bytes.now)
is_cut g c =
    c.in_ok-cut_off.ensures.cut ∙ ap (λ (f : List ℕ). take c.args.end f) (c.write_again.ensures.content ∙ sym c.requires.bytes)
    ∙ ap (λ (n : ℕ). take n c.args.bytes.now) c.requires.end ∙ cut_done c.args.bytes.now

pub write_synced-requires-clause-place : goal.write_synced-requires-clause-place
write_synced-requires-clause-place g c =
    omega (arith, c.requires.end, ap length (is_cut g (goal.at.write_synced-requires-clause-place g c).In_ok-cut_off))

pub returns-in_err-write_again-clause-quiet : goal.returns-in_err-write_again-clause-quiet
returns-in_err-write_again-clause-quiet g c =
    stopped (again g (goal.at.returns-in_err-write_again-clause-quiet g c).After-write_again) c.in_err-write_again.was (search rules)

pub returns-in_err-cut_off-clause-quiet : goal.returns-in_err-cut_off-clause-quiet
returns-in_err-cut_off-clause-quiet g c =
    stopped (cut g (goal.at.returns-in_err-cut_off-clause-quiet g c).After-cut_off) c.in_err-cut_off.was (search rules)

pub returns-clause-quiet : goal.returns-clause-quiet
returns-clause-quiet g c =
    let at = goal.at.returns-clause-quiet g c in
    then_on (cut g at.After-cut_off) c.write_synced.ensures.quiet
    (λ f from. torn_end c.args.bytes.now _ from.0 f c.requires.end
    (c.in_ok-cut_off.ensures.durable from.0 from.1 ∙ is_cut g at.In_ok-cut_off) from.2)

pub returns-clause-at_rest : goal.returns-clause-at_rest
returns-clause-at_rest g c =
    let is_kept = is_cut g (goal.at.returns-clause-at_rest g c).In_ok-cut_off in
    on_ok_weaker c.write_synced.result
    (λ written. written_at_end _ _ _ _ (c.requires.end ∙ sym (ap length is_kept)) written ∙ ap (λ (l : List ℕ). l ++ 32 ∷ []) is_kept)
    c.write_synced.ensures.written
