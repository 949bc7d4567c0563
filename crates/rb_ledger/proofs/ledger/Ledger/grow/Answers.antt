use Rattle.rb_ledger.proofs.Words.{◌≡◌, ◌-◌, ◌≤◌, length, vec_len, ap, sym, ◌∙◌, refl, arith, IfOk-from_err}
use Rattle.rb_ledger.proofs.Words.{on_err_weaker, Book, all_cancelled}
use Rattle.rb_ledger.proofs.Bounds
use Rattle.rb_ledger.proofs.CancelReads
use Rattle.rb_ledger.proofs.ChainFacts
use Rattle.rb_ledger.proofs.CheckpointFacts
use Rattle.rb_ledger.proofs.SeenLists
use Rattle.rb_ledger.proofs.ledger.Ledger.grow.Goals as goal

pub overflow_sub-additional : goal.overflow_sub-additional
overflow_sub-additional c = omega (arith, c.len.ensures, c.requires, ap (λ (b : Book). length b.entries) c.self.view_is)

pub invariant_of-self : goal.invariant_of-self
invariant_of-self c = record {
  index = SeenLists.same_index _ _ _ _ c.self.inside.index c.self.invariant.index c.reserve.ensures.items refl refl refl refl refl;
  links = ChainFacts.links_moved _ _ _ _ _ _ c.self.invariant.links refl c.reserve.ensures.items refl;
  cancelled = c.self.invariant.cancelled ∙ ap all_cancelled (sym c.reserve.ensures.items);
  checkpoints = CheckpointFacts.moved _ _ _ _ _ _ c.self.invariant.checkpoints refl c.reserve.ensures.items refl refl refl;
  sites = omega (arith, c.reserve.ensures.sites, c.self.invariant.sites);
  room = grind arith;
}

pub returns-in_err-reserve-clause-ok : goal.returns-in_err-reserve-clause-ok
returns-in_err-reserve-clause-ok c = IfOk-from_err c.from_residual.result _ c.from_residual.ensures.0

pub invariant_of-self-in_err-reserve-2 : goal.invariant_of-self-in_err-reserve-2
invariant_of-self-in_err-reserve-2 c = record {
  index = SeenLists.same_index _ _ _ _ c.self.inside.index c.self.invariant.index c.reserve.ensures.items refl refl refl refl refl;
  links = ChainFacts.links_moved _ _ _ _ _ _ c.self.invariant.links refl c.reserve.ensures.items c.reserve-2.ensures.items;
  cancelled = c.reserve-2.ensures.cancelled ∙ c.self.invariant.cancelled ∙ ap all_cancelled (sym c.reserve.ensures.items);
  checkpoints = CheckpointFacts.moved _ _ _ _ _ _ c.self.invariant.checkpoints refl c.reserve.ensures.items refl refl refl;
  sites = omega (arith, c.reserve.ensures.sites, c.self.invariant.sites);
  room = grind arith;
}

pub returns-in_err-reserve-2-clause-ok : goal.returns-in_err-reserve-2-clause-ok
returns-in_err-reserve-2-clause-ok c = IfOk-from_err c.from_residual-in_err-reserve-2.result _ c.from_residual-in_err-reserve-2.ensures.0

pub invariant_of-self-in_err-reserve_exact : goal.invariant_of-self-in_err-reserve_exact
invariant_of-self-in_err-reserve_exact c = record {
  index = SeenLists.same_index _ _ _ c.self.inside.index _ c.self.invariant.index c.reserve.ensures.items refl refl
      c.reserve_exact.ensures.items refl refl;
  links = ChainFacts.links_moved _ _ _ _ _ _ c.self.invariant.links refl c.reserve.ensures.items c.reserve-2.ensures.items;
  cancelled = c.reserve-2.ensures.cancelled ∙ c.self.invariant.cancelled ∙ ap all_cancelled (sym c.reserve.ensures.items);
  checkpoints = CheckpointFacts.moved _ _ _ _ _ _ c.self.invariant.checkpoints refl c.reserve.ensures.items refl refl refl;
  sites = omega (arith, c.reserve.ensures.sites, c.self.invariant.sites);
  room = grind arith;
}

pub returns-in_err-reserve_exact-clause-ok : goal.returns-in_err-reserve_exact-clause-ok
returns-in_err-reserve_exact-clause-ok c =
    IfOk-from_err c.from_residual-in_err-reserve_exact.result _ c.from_residual-in_err-reserve_exact.ensures.0

pub invariant_of-self-in_err-reserve-3 : goal.invariant_of-self-in_err-reserve-3
invariant_of-self-in_err-reserve-3 c = record {
  index = SeenLists.same_index _ _ _ c.self.inside.index _ c.self.invariant.index c.reserve.ensures.items refl refl
      c.reserve_exact.ensures.items refl refl;
  links = ChainFacts.links_moved _ _ _ _ _ _ c.self.invariant.links refl c.reserve.ensures.items c.reserve-2.ensures.items;
  cancelled = c.reserve-2.ensures.cancelled ∙ c.self.invariant.cancelled ∙ ap all_cancelled (sym c.reserve.ensures.items);
  checkpoints = CheckpointFacts.moved _ _ _ _ _ _ c.self.invariant.checkpoints refl c.reserve.ensures.items c.reserve-3.ensures.lasts
      c.reserve-3.ensures.accounts c.reserve-3.ensures.due;
  sites = omega (arith, c.reserve.ensures.sites, c.self.invariant.sites);
  room = grind arith;
}

pub returns-in_err-reserve-3-clause-ok : goal.returns-in_err-reserve-3-clause-ok
returns-in_err-reserve-3-clause-ok c = IfOk-from_err c.from_residual-in_err-reserve-3.result _ c.from_residual-in_err-reserve-3.ensures.0

pub invariant_of-self-2 : goal.invariant_of-self-2
invariant_of-self-2 c =
    let index = c.self.invariant.index in
    let room = c.self.invariant.room in
    let counted : vec_len c.self.inside.index.cancels ≡ length c.self.inside.entries.items =
    omega (arith, CancelReads.all_counts _ _ index.cancels) in
    let same = ap length c.reserve.ensures.items in
    let small : c.len.result ≤ c.args.limit =
    omega (arith, c.len.ensures, c.requires, ap (λ (b : Book). length b.entries) c.self.view_is) in
    record {
      index = SeenLists.same_index _ _ _ c.self.inside.index _ index c.reserve.ensures.items refl refl c.reserve_exact.ensures.items refl
          c.reserve-4.ensures.rows;
      links = ChainFacts.links_moved _ _ _ _ _ _ c.self.invariant.links refl c.reserve.ensures.items c.reserve-2.ensures.items;
      cancelled = c.reserve-2.ensures.cancelled ∙ c.self.invariant.cancelled ∙ ap all_cancelled (sym c.reserve.ensures.items);
      checkpoints = CheckpointFacts.moved _ _ _ _ _ _ c.self.invariant.checkpoints refl c.reserve.ensures.items c.reserve-3.ensures.lasts
          c.reserve-3.ensures.accounts c.reserve-3.ensures.due;
      sites = omega (arith, c.reserve.ensures.sites, c.self.invariant.sites);
      room = record {
        within = Bounds.at_least c.reserve-4.result _ _ _ _ c.reserve-4.ensures.ok c.reserve-4.ensures.err
            (omega (arith, small, c.len.ensures, same)) (omega (arith, same, room.within));
        entries = Bounds.at_most c.reserve-4.result _ _ _ _ c.reserve-4.ensures.ok c.reserve-4.ensures.err
            (omega (arith, c.in_ok-reserve.ensures.ok)) (omega (arith, c.reserve.ensures.grows, room.entries));
        cancels = Bounds.at_most c.reserve-4.result _ _ _ _ c.reserve-4.ensures.ok c.reserve-4.ensures.err
            (omega (arith, small, c.len.ensures, counted, c.reserve_exact.ensures.len, c.in_ok-reserve_exact.ensures.ok))
            (omega (arith, c.reserve_exact.ensures.capacity, room.cancels));
        links = Bounds.at_most c.reserve-4.result _ _ _ _ c.reserve-4.ensures.ok c.reserve-4.ensures.err
            (omega (arith, c.in_ok-reserve-2.ensures.ok)) (omega (arith, c.reserve-2.ensures.grows, room.links));
        checkpoints = Bounds.at_most c.reserve-4.result _ _ _ _ c.reserve-4.ensures.ok c.reserve-4.ensures.err
            (omega (arith, c.in_ok-reserve-3.ensures.ok)) (omega (arith, c.reserve-3.ensures.grows, room.checkpoints));
      };
    }

pub returns-clause-err : goal.returns-clause-err
returns-clause-err c = on_err_weaker c.reserve-4.result
    (λ e. SeenLists.same_book _ _ _ _ _ _ _ c.self.view_is refl c.reserve.ensures.items
    (ap (λ n. n - length c.reserve.new.self.items) e ∙ ap (λ us. c.self.inside.index.rows.limit - length us) c.reserve.ensures.items))
    c.reserve-4.ensures.err
