-- Two refusals are equal just if they are of one variant, and what they hold is equal.
use Rattle.std.proofs.Common.{◌≡◌, ◌∙◌, ◌==◌, sym}
use Rattle.std.specs.Cmp.{unsigned_Decides}
use Rattle.rb_money.specs.contracts.refusal.Cause.{enum as cause_enum}
use Rattle.rb_money.specs.contracts.refusal.CausePartialEq.TheImpl.{ghosts as cause_ghosts}
use Rattle.rb_money.specs.contracts.refusal.Refusal.{enum}
use Rattle.rb_money.specs.contracts.refusal.RefusalPartialEq.TheImpl.{ghosts}
use Rattle.rb_site.proofs.Variants.{IsEquality, enum_equality, none, number, two}
use Rattle.rb_site.proofs.same.same_refusal.Goals as goal

cause_equality : IsEquality cause_ghosts.eq
cause_equality = enum_equality cause_enum _ (none, (number, tt))

equality : IsEquality ghosts.eq
equality = enum_equality enum _ (
  none,
  (
    none,
    (
      none,
      (
        none,
        (
          none,
          (
            none,
            (
              number,
              (
                none,
                (
                  none,
                  (
                    two ◌==◌ ◌==◌ unsigned_Decides unsigned_Decides,
                    (
                      none,
                      (
                        none,
                        (
                          none,
                          (
                            two ◌==◌ cause_ghosts.eq unsigned_Decides cause_equality,
                            (none, (none, (none, (number, (none, (none, (none, (none, (none, (none, (none, tt))))))))))),
                          ),
                        ),
                      ),
                    ),
                  ),
                ),
              ),
            ),
          ),
        ),
      ),
    ),
  ),
)

pub returns : goal.returns
returns c =
    let h : c.eq.result ≡ ghosts.eq c.args.first.now c.args.second.now = c.eq.ensures in
    (λ e. (equality c.args.first.now c.args.second.now).0 (sym h ∙ e), λ e. h ∙ (equality c.args.first.now c.args.second.now).1 e)
