-- Each message is noted after those before it.
use Rattle.std.proofs.Common.{◌≡◌, ◌∙◌, ◌+◌, All, [], ◌∷◌, ◌++◌, ap, append-nil, append_assoc, arith, subst, sym, take}
use Rattle.std.specs.Prelude.{map}
use Rattle.std.proofs.lemmas.List.{map-append, take_more}
use Rattle.std.proofs.lemmas.List.Elements.{All-push}
use Rattle.rb_world.proofs.SentPlaces.{made_at}
use Rattle.rb_world.proofs.world.note_all.Goals as goal

pub loop-message-init : goal.loop-message-init
loop-message-init g c = record {
  position = omega arith;
  room = omega arith;
  noted = sym (append-nil (map g.M.KeepsMessage.noted c.args.messages.now.items));
  there = λ ts made all. all;
}

pub loop-message-preserved : goal.loop-message-preserved
loop-message-preserved g c =
    let noted = g.M.KeepsMessage.noted in
    let sent = c.args.sent.now in
    let k = c.loop-message.message-index in
    let before = map noted c.args.messages.now.items in
    let position : c.loop-message.position ≡ c.args.first + k = c.loop-message.invariant.position in
    record {
      position = omega arith;
      room = omega (arith, c.push_reserved.ensures.len, c.push_reserved.ensures.capacity, c.loop-message.invariant.room);
      noted = ap (map noted) c.push_reserved.ensures.items ∙ map-append noted c.loop-message.messages.items (c.note.result ∷ [])
          ∙ ap (λ ms. ms ++ noted c.note.result ∷ []) c.loop-message.invariant.noted
          ∙ append_assoc before (take k sent) (noted c.note.result ∷ [])
          ∙ ap (λ m. before ++ (take k sent ++ m ∷ [])) c.note.ensures.same
          ∙ ap (λ ms. before ++ ms) (sym (take_more sent k _ c.loop-message-test.true));
      there = λ ts made all. subst (All (g.M.KeepsMessage.IsThere ts)) (sym c.push_reserved.ensures.items)
          (All-push (g.M.KeepsMessage.IsThere ts) c.loop-message.messages.items c.note.result
          (c.loop-message.invariant.there ts made all)
          (c.note.ensures.there ts (rw position (made_at ts c.args.site c.args.first sent k _ made c.loop-message-test.true))));
    }
