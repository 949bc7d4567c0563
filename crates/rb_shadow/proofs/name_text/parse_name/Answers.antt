use Rattle.std.proofs.Common.{rules, arith, ◌≡◌, ◌<◌}
use Rattle.std.proofs.lemmas.Str.Pattern.{strip_prefix_char}
use Rattle.rb_shadow.proofs.NameDigits.{no_name, blue_cut}
use Rattle.rb_shadow.proofs.name_text.parse_name.Goals as goal

pub returns-in_err-strip_prefix-clause-only : goal.returns-in_err-strip_prefix-clause-only
returns-in_err-strip_prefix-clause-only c = λ name fits e.
    let red = rw c.in_default.is at (strip_prefix_char 82 c.args.text.now c.strip_prefix.result c.strip_prefix.ensures.cases (omega arith))
    in
    let blue = rw (c.in_err-strip_prefix.was) at (strip_prefix_char 66 c.args.text.now c.strip_prefix-2.result
    c.strip_prefix-2.ensures.cases (omega arith)) in
    absurd (no_name _ red blue name e)

pub returns-in_err-site-clause-only : goal.returns-in_err-site-clause-only
returns-in_err-site-clause-only c = λ name fits e.
    let blue = rw (c.in_ok-strip_prefix.was) at (strip_prefix_char 66 c.args.text.now c.strip_prefix-2.result c.strip_prefix-2.ensures.cases
    (omega arith)) in
    absurd (rw (c.in_err-site.was) at (blue_cut _ _ c.split_once.result blue c.split_once.ensures.cases name fits e))

pub returns-in_err-read_number-clause-only : goal.returns-in_err-read_number-clause-only
returns-in_err-read_number-clause-only c = λ name fits e.
    let blue = rw c.in_ok-strip_prefix.was at (strip_prefix_char 66 c.args.text.now c.strip_prefix-2.result c.strip_prefix-2.ensures.cases
    (omega arith)) in
    let cut = rw c.in_ok-site.was at (blue_cut _ _ c.split_once.result blue c.split_once.ensures.cases name fits e) in
    absurd (cc (c.read_number-2.ensures.only cut.0 (omega arith) cut.5, c.in_err-read_number.was))

pub returns-in_err-site-2-clause-only : goal.returns-in_err-site-2-clause-only
returns-in_err-site-2-clause-only c = λ name fits e.
    let blue = rw c.in_ok-strip_prefix.was at (strip_prefix_char 66 c.args.text.now c.strip_prefix-2.result c.strip_prefix-2.ensures.cases
    (omega arith)) in
    let cut = rw c.in_ok-site.was at (blue_cut _ _ c.split_once.result blue c.split_once.ensures.cases name fits e) in
    let read = c.read_number-2.ensures.only cut.0 (omega arith) cut.5 in
    let same : c.in_ok-read_number.field-0 ≡ cut.0 = cc (read, c.in_ok-read_number.was) in
    let small : c.in_ok-read_number.field-0 < 256 = omega arith in search rules

pub returns-in_err-n-2-clause-only : goal.returns-in_err-n-2-clause-only
returns-in_err-n-2-clause-only c = λ name fits e.
    let blue = rw c.in_ok-strip_prefix.was at (strip_prefix_char 66 c.args.text.now c.strip_prefix-2.result c.strip_prefix-2.ensures.cases
    (omega arith)) in
    let cut = rw c.in_ok-site.was at (blue_cut _ _ c.split_once.result blue c.split_once.ensures.cases name fits e) in
    let read = c.read_number-2.ensures.only cut.0 (omega arith) cut.5 in
    absurd (cc (c.read_number-3.ensures.only cut.1 cut.4 cut.6, c.in_err-n-2.was))

pub returns-clause-only : goal.returns-clause-only
returns-clause-only c = λ name fits e.
    let blue = rw c.in_ok-strip_prefix.was at (strip_prefix_char 66 c.args.text.now c.strip_prefix-2.result c.strip_prefix-2.ensures.cases
    (omega arith)) in
    let cut = rw c.in_ok-site.was at (blue_cut _ _ c.split_once.result blue c.split_once.ensures.cases name fits e) in
    let read = c.read_number-2.ensures.only cut.0 (omega arith) cut.5 in
    let same : c.in_ok-read_number.field-0 ≡ cut.0 = cc (read, c.in_ok-read_number.was) in
    let number : c.in_ok-n-2.n ≡ cut.1 = cc (c.read_number-3.ensures.only cut.1 cut.4 cut.6, c.in_ok-n-2.was) in
    let site : c.in_ok-site-2.site ≡ c.in_ok-read_number.field-0 = search rules in cc (cut.2, number, same, site)
