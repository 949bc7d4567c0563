-- One site more.
use Rattle.std.proofs.Common.{◌∙◌, ◌+◌, ◌≤◌, ℕ, ◌++◌, [], ◌∷◌, ap, arith, subst, sym, vec_len, vec_capacity}
use Rattle.std.proofs.lemmas.List.FromFn.{map-range_with_len_more}
use Rattle.rb_site.specs.Seen.{first_seen}
use Rattle.rb_auditor.proofs.Results.{went_well}
use Rattle.rb_auditor.proofs.checking.sites.open_all.Goals as goal

pub loop-me-preserved : goal.loop-me-preserved
loop-me-preserved c = (
  c.push_reserved.ensures.items
      ∙ ap (λ x. c.loop-me.sites.items ++ x ∷ []) c.in-Ok.ensures
      ∙ ap (λ xs. xs ++ first_seen c.args.config.now c.loop-me.me ∷ []) c.loop-me.invariant.0
      ∙ sym (map-range_with_len_more (first_seen c.args.config.now) 0 c.loop-me.me c.loop-me.me (omega arith)),
  c.push_reserved.ensures.len ∙ ap (λ n. n + 1) c.loop-me.invariant.1,
  (let P : ℕ → Type 0 = λ n. c.args.config.now.sites ≤ n in subst P (sym c.push_reserved.ensures.capacity) c.loop-me.invariant.2),
)

pub loop-me-init : goal.loop-me-init
loop-me-init c =
    let room : vec_len c.reserve.new.self + c.sites-count.result ≤ vec_capacity c.reserve.new.self =
    went_well c.reserve.result (sym c.if-is_err.ensures.value) c.reserve.ensures.ok in (
      c.reserve.ensures.items ∙ c.new-sites.ensures.items,
      c.reserve.ensures.len ∙ c.new-sites.ensures.len,
      omega (arith, c.sites-count.ensures.same),
    )
