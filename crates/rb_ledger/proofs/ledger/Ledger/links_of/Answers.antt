use Rattle.rb_ledger.proofs.Words.{◌∷◌, ◌++◌, [], refl, ap, sym, ◌∙◌, subst, arith, pos, bal, UndoParts, IsLink}
use Rattle.rb_ledger.proofs.OneMore
use Rattle.rb_ledger.proofs.Seconds
use Rattle.rb_ledger.proofs.Indexed
use Rattle.rb_ledger.proofs.Public.Legal
use Rattle.rb_ledger.proofs.Others
use Rattle.rb_ledger.proofs.Overdraws
use Rattle.rb_ledger.proofs.ledger.Ledger.links_of.Goals as goal

pub moved_by-added-requires-clause-valid : goal.moved_by-added-requires-clause-valid
moved_by-added-requires-clause-valid c = Legal.IsValid-front c.args.self.now.settings c.args.self.now.entries (c.args.shadow.now
    ∷ []) c.requires.valid

pub moved_by-added-requires-clause-target : goal.moved_by-added-requires-clause-target
moved_by-added-requires-clause-target c = (Legal.IsValid-last c.args.self.now.settings c.args.self.now.entries c.args.shadow.now
    c.requires.valid).target

pub overflow_add-own_balance : goal.overflow_add-own_balance
overflow_add-own_balance c =
    let s = c.args.self.now.settings in
    let us = c.args.self.now.entries in
    let h = c.args.shadow.now in
    let valid = Legal.IsValid-front s us (h ∷ []) c.requires.valid in
    let was = Legal.kept_balance s us h.account c.args.parts.now.balance valid
    (ap (λ (p : UndoParts). p.balance) c.requires.parts) in
    omega (
      arith,
      Indexed.bal_small s us h.account c.args.parts.now.balance
          c.requires.configured valid was,
      Overdraws.sound_amount s h
          (Legal.IsValid-last s us h c.requires.valid).sound,
    )

pub overflow_sub-own_balance : goal.overflow_sub-own_balance
overflow_sub-own_balance c =
    let valid = Legal.IsValid-front c.args.self.now.settings c.args.self.now.entries (c.args.shadow.now ∷ []) c.requires.valid in
    let was = Legal.kept_balance c.args.self.now.settings c.args.self.now.entries c.args.shadow.now.account c.args.parts.now.balance valid
    (ap (λ (p : UndoParts). p.balance) c.requires.parts) in
    (OneMore.with_seen c.args.self.now.settings c.args.self.now.entries c.args.shadow.now _ _ _ valid c.requires.valid was
    c.moved_by-added.ensures.sums).0

pub link-own-requires : goal.link-own-requires
link-own-requires c =
    let near = Overdraws.sound_account c.args.self.now.settings c.args.shadow.now
    (Legal.IsValid-last c.args.self.now.settings c.args.self.now.entries c.args.shadow.now c.requires.valid).sound in
    omega (arith, near, ap (λ (p : UndoParts). p.place.0) c.requires.parts)

pub returns-then-eq : goal.returns-then-eq
returns-then-eq c =
    let s = c.args.self.now.settings in
    let us = c.args.self.now.entries in
    let h = c.args.shadow.now in
    let valid = Legal.IsValid-front s us (h ∷ []) c.requires.valid in
    let was = Legal.kept_balance s us h.account c.args.parts.now.balance valid
    (ap (λ (p : UndoParts). p.balance) c.requires.parts) in
    let now = (OneMore.with_seen s us h _ _ _ valid c.requires.valid was
    c.moved_by-added.ensures.sums).1 in
    let place = ap (λ (p : UndoParts). p.place) c.requires.parts in
    record {
      account = refl;
      own = subst (λ a. IsLink s us (us ++ h
          ∷ []) a c.link-own.result) place (record {
            balance = ap pos c.link-own.ensures.balance ∙ now ∙ ap (bal s (us ++ h
                ∷ [])) (sym place);
            earlier = c.link-own.ensures.earlier;
          });
      other = λ b there. absurd (Seconds.no_second _ _ h c.args.parts.now.other b c.requires.configured valid
          c.requires.valid (ap (λ (p : UndoParts). p.other) c.requires.parts) (sym c.eq.ensures ∙ c.if-eq.true) there);
    }

pub overflow_add-other_balance : goal.overflow_add-other_balance
overflow_add-other_balance c =
    let s = c.args.self.now.settings in
    let us = c.args.self.now.entries in
    let h = c.args.shadow.now in
    let valid = Legal.IsValid-front s us (h ∷ []) c.requires.valid in
    let there = Seconds.second_there us h c.args.parts.now.other
    (ap (λ (p : UndoParts). p.other) c.requires.parts) (sym c.eq.ensures ∙ c.if-eq.false) in
    let was = Seconds.second_kept s us h c.args.parts.now.other
    c.args.parts.now.other_balance valid (ap (λ (p : UndoParts). p.other_balance) c.requires.parts) there in
    omega (
      arith,
      Indexed.bal_small s us c.args.parts.now.other c.args.parts.now.other_balance
          c.requires.configured valid was,
      Overdraws.sound_amount s h
          (Legal.IsValid-last s us h c.requires.valid).sound,
    )

pub overflow_sub-other_balance : goal.overflow_sub-other_balance
overflow_sub-other_balance c =
    let us = c.args.self.now.entries in
    let h = c.args.shadow.now in
    let valid = Legal.IsValid-front c.args.self.now.settings us (h ∷ []) c.requires.valid in
    let there = Seconds.second_there us h c.args.parts.now.other
    (ap (λ (p : UndoParts). p.other) c.requires.parts) (sym c.eq.ensures ∙ c.if-eq.false) in
    let was = Seconds.second_kept c.args.self.now.settings us h c.args.parts.now.other
    c.args.parts.now.other_balance valid (ap (λ (p : UndoParts). p.other_balance) c.requires.parts) there in
    (OneMore.other_seen c.args.self.now.settings us h c.args.parts.now.other _ _ _ valid
    c.requires.valid there was c.moved_by-added.ensures.sums).0

pub link-other-requires : goal.link-other-requires
link-other-requires c =
    let h = c.args.shadow.now in
    let valid = Legal.IsValid-front c.args.self.now.settings c.args.self.now.entries (h ∷ []) c.requires.valid in
    let there = Seconds.second_there c.args.self.now.entries h c.args.parts.now.other
    (ap (λ (p : UndoParts). p.other) c.requires.parts) (sym c.eq.ensures ∙ c.if-eq.false) in
    (Others.other_apart _ _ h c.args.parts.now.other valid (Legal.IsValid-last _ _ h c.requires.valid)
    there).0

pub returns : goal.returns
returns c =
    let s = c.args.self.now.settings in
    let us = c.args.self.now.entries in
    let h = c.args.shadow.now in
    let valid = Legal.IsValid-front s us (h ∷ []) c.requires.valid in
    let after = us ++ h ∷ [] in
    let was = Legal.kept_balance s us h.account c.args.parts.now.balance valid
    (ap (λ (p : UndoParts). p.balance) c.requires.parts) in
    let now = (OneMore.with_seen s us h _ _ _ valid c.requires.valid was
    c.moved_by-added.ensures.sums).1 in
    let place = ap (λ (p : UndoParts). p.place) c.requires.parts in
    let there = Seconds.second_there us h c.args.parts.now.other
    (ap (λ (p : UndoParts). p.other) c.requires.parts) (sym c.eq.ensures ∙ c.if-eq.false) in
    let other_was = Seconds.second_kept s us h c.args.parts.now.other
    c.args.parts.now.other_balance valid (ap (λ (p : UndoParts). p.other_balance) c.requires.parts) there in
    let other_now = (OneMore.other_seen s us h c.args.parts.now.other _ _ _
    valid c.requires.valid there other_was c.moved_by-added.ensures.sums).1 in
    record {
      account = refl;
      own = subst (λ a. IsLink s us after a c.link-own.result) place (record {
        balance = ap pos c.link-own.ensures.balance ∙ now ∙ ap (bal s after) (sym place);
        earlier = c.link-own.ensures.earlier;
      });
      other = λ b second. subst (λ a. IsLink s us after a c.link-other.result)
          (Seconds.same_second _ _ (sym there ∙ second)) (record {
            balance = ap pos c.link-other.ensures.balance ∙ other_now;
            earlier = c.link-other.ensures.earlier;
          });
    }

pub moved_by-added-requires-clause-at : goal.moved_by-added-requires-clause-at
moved_by-added-requires-clause-at c = ap (λ (p : UndoParts). p.target) c.requires.parts
