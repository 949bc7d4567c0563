use Rattle.std.proofs.Common.{◌≡◌, ◌≢◌, ◌++◌, ◌∷◌, [], inl, inr, ap, refl, subst, sym, ◌∙◌}
use Rattle.std.specs.Prelude.{None}
use Rattle.std.proofs.lemmas.Bool.{false≢true}
use Rattle.rb_site.specs.Events.{is_full, reply_to, sent_at}
use Rattle.rb_site.specs.Seen.{SeenSite, entry, state_of}
use Rattle.rb_history.specs.Ids.{AskedEntry}
use Rattle.rb_node.specs.Answers.{SeenNode}
use Rattle.rb_node.specs.Asked.{SeenAsked, asked_state, known_of, without_ids, with_id, with_more}
use Rattle.rb_node.proofs.Spelled.{known_is, replayed_entry, where_none, where_some}
use Rattle.rb_node.proofs.node.Node.replay_entry.Goals as goal

pub returns-then-is_some-clause-bad : goal.returns-then-is_some-clause-bad
returns-then-is_some-clause-bad g c e =
    let id = c.args.id.now in
    let seen : c.self.inside.site ≡ c.args.self.now.site = ap (λ (v : SeenNode). v.site) c.self.view_is in
    let kept = where_some _ c.known.result _ c.if-is_some.ensures c.known.ensures in
    (subst (λ (y : SeenAsked). known_of y id ≢ None) seen (known_is c.self.inside.site id kept.0.now kept.1), refl)

pub returns-then-is_full-clause-wrong : goal.returns-then-is_full-clause-wrong
returns-then-is_full-clause-wrong g c e =
    let seen : c.self.inside.site ≡ c.args.self.now.site = ap (λ (v : SeenNode). v.site) c.self.view_is in
    inl (ap (λ (y : SeenSite). is_full y.settings (state_of y)) (sym (c.site.ensures ∙ ap without_ids seen)) ∙ sym c.if-is_full.ensures)

pub returns-then-not-same-clause-wrong : goal.returns-then-not-same-clause-wrong
returns-then-not-same-clause-wrong g c e =
    let old = c.args.self.now.site in
    let x = c.args.entry.now in
    let seen : c.self.inside.site ≡ old = ap (λ (v : SeenNode). v.site) c.self.view_is in
    let given : c.answer.new.reply ≡ reply_to old.settings (asked_state old) x.event =
    c.in_ok-answer.ensures.ok.1 ∙ ap (λ (y : SeenAsked). reply_to y.settings (asked_state y) x.event) seen in
    inr (λ e. false≢true (sym c.if-not-same.true ∙ c.same.ensures.1 (given ∙ sym e)))

pub returns-clause-replayed : goal.returns-clause-replayed
returns-clause-replayed g c =
    let old = c.args.self.now.site in
    let x : AskedEntry = record { id = c.args.id.now; entry = c.args.entry.now } in
    let e = x.entry.event in
    let reply = c.answer.new.reply in
    let seen : c.self.inside.site ≡ old = ap (λ (v : SeenNode). v.site) c.self.view_is in
    let ok = c.in_ok-answer.ensures.ok in
    replayed_entry old (record { site = c.answer.new.self; sent = c.answer.new.sent.items }) x reply c.requires
    (ap (λ (y : SeenSite). is_full y.settings (state_of y)) (sym (c.site.ensures ∙ ap without_ids seen)) ∙ sym c.if-is_full.ensures)
    (sym (ap (λ (y : SeenAsked). known_of y x.id) seen) ∙ where_none c.known.result _ c.if-is_some.ensures c.known.ensures)
    (ok.0 ∙ ap (λ (y : SeenAsked). with_more y (with_id x.id (entry e reply) ∷ [])) seen)
    (ok.1 ∙ ap (λ (y : SeenAsked). reply_to y.settings (asked_state y) e) seen)
    (c.same.ensures.0 c.if-not-same.false)
    (ok.2 ∙ ap (λ l. l ++ sent_at c.self.inside.site.settings (asked_state c.self.inside.site) e) c.clear.ensures.items
    ∙ ap (λ (y : SeenAsked). sent_at y.settings (asked_state y) e) seen)
