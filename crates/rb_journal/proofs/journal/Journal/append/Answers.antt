use Rattle.std.proofs.Common.{◌≡◌, inl, ◌-◌, ◌≤◌, List, ℕ, [], ◌∷◌, ◌++◌, length, take, drop, sym, ◌∙◌}
use Rattle.std.proofs.Common.{ap, subst, arith, append-nil, length-append, rules}
use Rattle.std.specs.List.{concat}
use Rattle.std.proofs.lemmas.List.{drop-append-le, take_rest}
use Rattle.rb_journal.specs.Lines.{recovered, at_rest, IsIntact}
use Rattle.rb_journal.specs.Journal.{IsAppended}
use Rattle.rb_journal.proofs.Public.Moments.{started}
use Rattle.rb_journal.specs.Quiet.{Quiet}
use Rattle.rb_journal.proofs.Quiet.{left_as, read_as, then_on, weaken}
use Rattle.rb_journal.proofs.Crash.{torn_rest, written_rest, torn_gate, written_gate, after_gate, all_or_none, length-after, length-at_rest}
use Rattle.rb_journal.proofs.Intact.{appended_intact, at_rest_intact}
use Rattle.rb_journal.proofs.journal.Journal.append.Given.{Over}
use Rattle.rb_journal.proofs.journal.Journal.append.Goals.{After-write_synced-staged, In_ok-staged, After-write_synced, In_ok-write_synced}
use Rattle.rb_journal.proofs.journal.Journal.append.Goals as goal

-- the batch has a line
some : (g : Over) (c : After-write_synced-staged g) → 1 ≤ length c.args.batch.now.items
some g c = search rules

-- what is written after the gate
rest : (g : Over) (c : After-write_synced-staged g) → take (length c.deref.result.now - 1) (drop 1 c.deref.result.now)
    ≡ drop 1 c.args.batch.now.items ++ 32 ∷ []
rest g c =
    let given : c.deref.result.now ≡ c.args.batch.now.items ++ 32 ∷ [] = search rules in
    take_rest c.deref.result.now 1 ∙ ap (λ (l : List ℕ). drop 1 l) given
    ∙ drop-append-le 1 c.args.batch.now.items (32 ∷ []) (some g c)

-- at each moment of that write the gate is closed
closed : (g : Over) (c : After-write_synced-staged g) → Quiet g.H.Host (IsAppended (recovered (g.H.Host.content c.args.self.now.host))
    c.args.batch.now.items) c.args.self.now.host c.write_synced-staged.new.host c.write_synced-staged.result
closed g c =
    weaken c.write_synced-staged.ensures.quiet
    (λ f from. torn_rest (g.H.Host.content c.args.self.now.host) c.args.batch.now.items c.requires.lines (some g c) _ _ from.0 f
    (omega (arith, c.requires.settled.end)) (rest g c) (c.requires.settled.durable from.0 from.1 ∙ c.requires.settled.file) from.2)

-- what is there after it
staged : (g : Over) (c : In_ok-staged g) → g.H.Host.content c.write_synced-staged.new.host
    ≡ concat (recovered (g.H.Host.content c.args.self.now.host)) ++ 32 ∷ (drop 1 c.args.batch.now.items ++ 32 ∷ [])
staged g c =
    let p = (goal.at.In_ok-staged g c).After-write_synced-staged in
    written_rest (g.H.Host.content c.args.self.now.host) c.args.batch.now.items c.requires.lines (some g p) _ _ _ _
    (omega (arith, c.requires.settled.end)) (rest g p) c.requires.settled.file c.in_ok-staged.ensures.written

-- then the gate is opened
opened : (g : Over) (c : After-write_synced g) → Quiet g.H.Host (IsAppended (recovered (g.H.Host.content c.args.self.now.host))
    c.args.batch.now.items) c.args.self.now.host c.write_synced.new.host c.write_synced.result
opened g c =
    let at = goal.at.After-write_synced g c in
    then_on (closed g at.After-write_synced-staged) c.write_synced.ensures.quiet
    (λ f from. torn_gate (g.H.Host.content c.args.self.now.host) c.args.batch.now.items c.requires.lines
    (some g at.After-write_synced-staged) _ from.0 f c.requires.settled.end
    (c.in_ok-staged.ensures.durable from.0 from.1 ∙ staged g at.In_ok-staged) from.2)

-- and the file is at rest, with the batch
is_written : (g : Over) (c : In_ok-write_synced g) → g.H.Host.content c.write_synced.new.host
    ≡ at_rest (recovered (g.H.Host.content c.args.self.now.host) ++ recovered c.args.batch.now.items)
is_written g c =
    let at = goal.at.In_ok-write_synced g c in
    written_gate (g.H.Host.content c.args.self.now.host) c.args.batch.now.items c.requires.lines (some g at.After-write_synced-staged)
    _ _ _ c.requires.settled.end (staged g at.In_ok-staged) c.in_ok-write_synced.ensures.written

-- and its lines are those from before and the batch's
has_lines : (g : Over) (c : In_ok-write_synced g) → recovered (g.H.Host.content c.write_synced.new.host)
    ≡ recovered (g.H.Host.content c.args.self.now.host) ++ recovered c.args.batch.now.items
has_lines g c =
    ap recovered (is_written g c) ∙ after_gate (g.H.Host.content c.args.self.now.host) c.args.batch.now.items c.requires.lines
    (some g (goal.at.In_ok-write_synced g c).After-write_synced-staged)

pub write_synced-staged-requires-clause-place : goal.write_synced-staged-requires-clause-place
write_synced-staged-requires-clause-place g c =
    omega (arith, c.requires.settled.end, ap length c.requires.settled.file, length-at_rest (g.H.Host.content c.args.self.now.host))

pub write_synced-requires-clause-place : goal.write_synced-requires-clause-place
write_synced-requires-clause-place g c =
    let text : List ℕ = concat (recovered (g.H.Host.content c.args.self.now.host)) in
    let at = goal.at.write_synced-requires-clause-place g c in
    omega (
      arith,
      c.requires.settled.end,
      ap length (staged g at.In_ok-staged),
      length-append text (32 ∷ (drop 1 c.args.batch.now.items ++ 32 ∷ [])),
    )

pub returns-in_err-staged-clause-any_moment : goal.returns-in_err-staged-clause-any_moment
returns-in_err-staged-clause-any_moment g c =
    let p = (goal.at.returns-in_err-staged-clause-any_moment g c).After-write_synced-staged in
    read_as (closed g p) (all_or_none (g.H.Host.content c.args.self.now.host) c.args.batch.now.items c.requires.lines (some g p))

pub returns-in_err-staged-clause-appended : goal.returns-in_err-staged-clause-appended
returns-in_err-staged-clause-appended g c =
    let p = (goal.at.returns-in_err-staged-clause-appended g c).After-write_synced-staged in
    left_as (closed g p) (appended_intact (g.H.Host.content c.args.self.now.host) c.args.batch.now.items c.requires.lines (some g p))

pub returns-in_err-write_synced-clause-any_moment : goal.returns-in_err-write_synced-clause-any_moment
returns-in_err-write_synced-clause-any_moment g c =
    let p = goal.at.returns-in_err-write_synced-clause-any_moment g c in
    read_as (opened g p.After-write_synced)
    (all_or_none (g.H.Host.content c.args.self.now.host) c.args.batch.now.items c.requires.lines (some g p.After-write_synced-staged))

pub returns-in_err-write_synced-clause-appended : goal.returns-in_err-write_synced-clause-appended
returns-in_err-write_synced-clause-appended g c =
    let p = goal.at.returns-in_err-write_synced-clause-appended g c in
    left_as (opened g p.After-write_synced)
    (appended_intact (g.H.Host.content c.args.self.now.host) c.args.batch.now.items c.requires.lines (some g p.After-write_synced-staged))

pub returns-clause-any_moment : goal.returns-clause-any_moment
returns-clause-any_moment g c =
    let p = goal.at.returns-clause-any_moment g c in
    read_as (opened g p.After-write_synced)
    (all_or_none (g.H.Host.content c.args.self.now.host) c.args.batch.now.items c.requires.lines (some g p.After-write_synced-staged))

pub returns-clause-appended : goal.returns-clause-appended
returns-clause-appended g c =
    let p = goal.at.returns-clause-appended g c in
    left_as (opened g p.After-write_synced)
    (appended_intact (g.H.Host.content c.args.self.now.host) c.args.batch.now.items c.requires.lines (some g p.After-write_synced-staged))

pub returns-clause-lines : goal.returns-clause-lines
returns-clause-lines g c = has_lines g (goal.at.returns-clause-lines g c).In_ok-write_synced

pub returns-clause-settled : goal.returns-clause-settled
returns-clause-settled g c =
    let at = goal.at.returns-clause-settled g c in
    let lines = has_lines g at.In_ok-write_synced in
    record {
      usable = c.in_ok-write_synced.ensures.quiet.usable;
      file = is_written g at.In_ok-write_synced ∙ ap at_rest (sym lines);
      end = omega (
        arith,
        c.requires.settled.end,
        c.len-len.ensures,
        ap (λ (ls : List (List ℕ)). length (concat ls)) lines,
        length-after (g.H.Host.content c.args.self.now.host) c.args.batch.now.items c.requires.lines (some g at.After-write_synced-staged),
      );
      durable = c.in_ok-write_synced.ensures.durable;
    }

-- a file at rest is what an append leaves that does nothing
at_rest_appended : (file batch c : List ℕ) → c ≡ at_rest (recovered file) → IsAppended (recovered file) batch c × IsIntact c
at_rest_appended file batch c is =
    (inl ([], is ∙ sym (append-nil (at_rest (recovered file))), omega arith), subst IsIntact (sym is) (at_rest_intact file))

pub returns-in_err-push-clause-appended : goal.returns-in_err-push-clause-appended
returns-in_err-push-clause-appended g c =
    let file = g.H.Host.content c.args.self.now.host in
    started g.H.Host.moment g.H.Host.left_since _ _ (λ f d left. at_rest_appended file c.args.batch.now.items f
    (c.requires.settled.durable f (g.met.H.Host.only_now c.args.self.now.host f d left).1 ∙ c.requires.settled.file))
