use Rattle.std.proofs.Common.{◌≡◌, ℕ, ◌+◌, ◌-◌, List, ◌++◌, length, take, drop, sym, ◌∙◌, ap, arith, append_assoc, length-drop}
use Rattle.std.proofs.Math.Seq.{take-add}
use Rattle.std.proofs.lemmas.List.{take_rest}
use Rattle.rb_journal.specs.Host.{Outputs, AddsPrefix}
use Rattle.rb_journal.proofs.Public.Moments.{goes_on}
use Rattle.rb_journal.proofs.journal.put_out_all.Goals as goal

-- after some bytes, some of the rest of them
output_more : (start now bytes : List ℕ) (done k : ℕ) → now ≡ start ++ take done bytes →
    now ++ take k (take (length bytes - done) (drop done bytes)) ≡ start ++ take (done + k) bytes
output_more start now bytes done k is =
    ap (λ (l : List ℕ). l ++ take k (take (length bytes - done) (drop done bytes))) is
    ∙ append_assoc start (take done bytes) (take k (take (length bytes - done) (drop done bytes)))
    ∙ ap (λ (l : List ℕ). start ++ (take done bytes ++ take k l)) (take_rest bytes done)
    ∙ ap (λ (l : List ℕ). start ++ l) (sym (take-add done k bytes))

some_more : (start now bytes d : List ℕ) (done : ℕ) → now ≡ start ++ take done bytes →
    AddsPrefix now (take (length bytes - done) (drop done bytes)) d → AddsPrefix start bytes d
some_more start now bytes d done is some = (done + some.0, some.1 ∙ output_more start now bytes done some.0 is)

pub returns-in_err-done-clause-any_moment : goal.returns-in_err-done-clause-any_moment
returns-in_err-done-clause-any_moment g c =
    let so_far = c.loop-done.invariant in
    let P = Outputs (g.H.Host.may_leave c.args.host.now) (g.H.Host.output c.args.host.now) c.args.bytes.now in
    goes_on g.H.Host.moment g.H.Host.left_since c.args.host.now c.loop-done.host c.put_out.new.self P _ so_far.any_moment
    c.put_out.ensures.time
    (λ f d now. (so_far.crash f now.0, some_more _ _ c.args.bytes.now d c.loop-done.done so_far.output now.1))

pub loop-done-preserved : goal.loop-done-preserved
loop-done-preserved g c =
    let so_far = c.loop-done.invariant in
    let bytes = c.args.bytes.now in
    let n = c.in_ok-done.field-0 in
    let left : length (take (length bytes - c.loop-done.done) (drop c.loop-done.done bytes)) ≡ length bytes - c.loop-done.done =
    ap length (take_rest bytes c.loop-done.done) ∙ length-drop c.loop-done.done bytes in
    let P = Outputs (g.H.Host.may_leave c.args.host.now) (g.H.Host.output c.args.host.now) bytes in
    record {
      within = omega (arith, left, c.in_ok-done.ensures.count, c.loop-done-test.true);
      usable = c.in_ok-done.ensures.usable;
      output = c.in_ok-done.ensures.output ∙ output_more _ _ bytes c.loop-done.done n so_far.output;
      content = c.put_out.ensures.content ∙ so_far.content;
      crash = λ f now. so_far.crash f (c.put_out.ensures.crash f now);
      any_moment = goes_on g.H.Host.moment g.H.Host.left_since c.args.host.now c.loop-done.host c.put_out.new.self P _ so_far.any_moment
          c.put_out.ensures.time
          (λ f d now. (so_far.crash f now.0, some_more _ _ bytes d c.loop-done.done so_far.output now.1));
      later = omega (arith, so_far.later, c.put_out.ensures.cause.later);
    }
