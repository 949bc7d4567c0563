use Rattle.std.proofs.Common.{arith, rules, ◌≡◌, ◌≤◌, ◌∙◌, length, drop, slice_range, ap}
use Rattle.std.proofs.lemmas.List.{take_rest}
use Rattle.rb_lines.specs.Lines.{line_len}
use Rattle.rb_lines.proofs.LineLaws.{found_later, stays_within}
use Rattle.rb_lines.proofs.pending.Pending.first_line.Goals as goal

pub slice_bounds-line_length-count : goal.slice_bounds-line_length-count
slice_bounds-line_length-count c =
    let here : c.as_slice.result.now ≡ slice_range c.self.inside.bytes.items c.self.inside.start c.self.inside.end = search rules in
    rw here (omega (arith, c.self.invariant.2, stays_within (slice_range c.self.inside.bytes.items c.self.inside.start c.self.inside.end)))

pub slice_bounds-line_length-start : goal.slice_bounds-line_length-start
slice_bounds-line_length-start c =
    let here : c.as_slice.result.now ≡ slice_range c.self.inside.bytes.items c.self.inside.start c.self.inside.end = search rules in
    let fits : c.self.inside.searched ≤ length c.as_slice.result.now =
    rw here (omega (
      arith,
      c.self.invariant.2,
      stays_within (slice_range c.self.inside.bytes.items c.self.inside.start c.self.inside.end),
    )) in
    search rules

pub invariant_of-self : goal.invariant_of-self
invariant_of-self c =
    let bytes = slice_range c.self.inside.bytes.items c.self.inside.start c.self.inside.end in
    let here : c.as_slice.result.now ≡ bytes = search rules in
    let rest : c.line_length.result ≡ line_len (drop c.self.inside.searched bytes) =
    c.line_length.ensures.length ∙ ap line_len (take_rest c.as_slice.result.now c.self.inside.searched)
    ∙ ap (λ b. line_len (drop c.self.inside.searched b)) here in
    (c.self.invariant.0, c.self.invariant.1, omega (arith, rest, found_later bytes c.self.inside.searched c.self.invariant.2))

pub returns-clause-length : goal.returns-clause-length
returns-clause-length c =
    let bytes = slice_range c.self.inside.bytes.items c.self.inside.start c.self.inside.end in
    let here : c.as_slice.result.now ≡ bytes = search rules in
    let rest : c.line_length.result ≡ line_len (drop c.self.inside.searched bytes) =
    c.line_length.ensures.length ∙ ap line_len (take_rest c.as_slice.result.now c.self.inside.searched)
    ∙ ap (λ b. line_len (drop c.self.inside.searched b)) here in
    rw (← c.self.view_is) (omega (arith, rest, found_later bytes c.self.inside.searched c.self.invariant.2))

pub returns-clause-within : goal.returns-clause-within
returns-clause-within c =
    let whole = returns-clause-length c in
    omega (arith, whole, stays_within c.args.self.now)
