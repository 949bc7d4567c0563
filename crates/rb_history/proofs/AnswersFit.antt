-- The replies of a site and the names that it holds fit a line, whatever its events.
use Rattle.rb_history.proofs.Words.{Each, IsReply, HeldNamesFitLines, RepliesFitLines, member_sound, IsConfigured, Settings, HistoryFull}
use Rattle.rb_history.proofs.Words.{names_of_all, found, IsName, Among, Shadow, Answers, Applies, Drops, Holds, Makes, MakesAll, ModelSite}
use Rattle.rb_history.proofs.Words.{Outcome, Passes, Refuses, Shows, Takes, after_events, first_site, is_full, reply_of, outcome_of}
use Rattle.rb_history.proofs.Words.{ShadowMessage, TokenOnItsWay, Refused, List, [], cond, false, inl, inr, refl, subst, true, ◌++◌, ◌∷◌}
use Rattle.rb_history.proofs.Words.{map}
use Rattle.rb_shadow.proofs.Public.Members
use Rattle.rb_inbox.specs.Held.{comes_before, with_held}
use Rattle.rb_history.proofs.StatementsFit.{facts_name, statement_fits}
use Rattle.rb_history.proofs.SentFits.{AllFit, IsInOrder, Keeps, first_in_order, in_order, keeps, sound_name}

among_held : (v : Shadow) (us : List Shadow) → Among v (with_held v us)
among_held v [] = inl refl
among_held v (u ∷ us) = elim (comes_before v.name u.name) as (λ b. Among v (cond b (v ∷ u ∷ us) (u ∷ with_held v us)))
    [ true ↦ inl refl | false ↦ inr (among_held v us) ]

names_fit : (s : Settings) (vs : List Shadow) → AllFit s (map ShadowMessage vs) → Each IsName (names_of_all vs)
names_fit s [] fit = tt
names_fit s (v ∷ vs) fit = ((fit (ShadowMessage v) (inl refl)).name, names_fit s vs (λ m h. fit m (inr h)))

-- so the reply to an outcome fits that keeps a site in order
reply_fits : (s : Settings) → IsConfigured s → (t : ModelSite) → IsInOrder s t → (o : Outcome) → Keeps s t o
    → IsReply (reply_of s t.ops o)
reply_fits s c t g (Refuses why) k = k.says
reply_fits s c t g (Drops x why) k = k.says
reply_fits s c t g (Answers reply) k = k.says
reply_fits s c t g (Shows a) k = statement_fits s c t.ops a g.valid
reply_fits s c t g (Makes v) k = (k.sends (ShadowMessage v) (inl refl)).name
reply_fits s c t g (MakesAll vs) k = names_fit s vs k.sends
reply_fits s c t g (Holds v) k = sound_name s c v (k.order.held v (among_held v t.held))
reply_fits s c t g (Applies v) k =
    facts_name s c v (member_sound s (t.ops ++ v ∷ []) v k.order.valid (Members.Among-right t.ops (v ∷ []) v (inl refl)))
reply_fits s c t g (Takes m) k = k.says
reply_fits s c t g (Passes m) k = (k.sends (TokenOnItsWay m) (inl refl)).0

-- ---- the laws

-- each reply of a site fits
pub replies_fit : RepliesFitLines
replies_fit s c me low es e =
    let t = after_events s (first_site me) es in
    let g = in_order s c es (first_site me) (first_in_order s c me low) in
    elim (is_full s t) as (λ b. IsReply (cond b (Refused HistoryFull) (reply_of s t.ops (outcome_of s t e))))
    [ true ↦ tt | false ↦ reply_fits s c t g (outcome_of s t e) (keeps s c t g e) ]

-- so does the name of what it holds
pub held_fit : HeldNamesFitLines
held_fit s c me low es x v is =
    let t = after_events s (first_site me) es in
    let g = in_order s c es (first_site me) (first_in_order s c me low) in
    let (there, named) = found t.held x v is in
    subst IsName named (sound_name s c v (g.held v there))
