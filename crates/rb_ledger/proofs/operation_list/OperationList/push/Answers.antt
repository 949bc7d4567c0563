use Rattle.rb_ledger.proofs.Words.{◌≡◌, ◌⊎◌, ◌+◌, ◌++◌, ◌∷◌, [], ap, sym, ◌∙◌, arith, get_or, length, subst}
use Rattle.rb_ledger.proofs.Words.{KeptOperation, OperationTable, clock_count, operations_of, with_counts}
use Rattle.rb_ledger.proofs.OperationTables
use Rattle.rb_ledger.proofs.operation_list.OperationList.push.Goals as goal

pub push_reserved-requires : goal.push_reserved-requires
push_reserved-requires c = omega (
  arith,
  c.requires.room,
  c.self.inside.kept.ok.0,
  c.self.invariant.operations_fit,
  OperationTables.as_many c.self.inside.clocks.sites c.self.inside.kept.items c.self.inside.clocks.items,
  ap (λ (t : OperationTable). length t.items) c.self.view_is,
  ap (λ (t : OperationTable). t.limit) c.self.view_is,
)

pub keep-clock-requires-clause-room : goal.keep-clock-requires-clause-room
keep-clock-requires-clause-room c = omega (
  arith,
  c.requires.room,
  c.self.invariant.clocks,
  c.self.invariant.clocks_fit,
  OperationTables.few_clocks 0 c.self.inside.kept.items c.self.invariant.order,
  OperationTables.as_many c.self.inside.clocks.sites c.self.inside.kept.items c.self.inside.clocks.items,
  ap (λ (t : OperationTable). length t.items) c.self.view_is,
  ap (λ (t : OperationTable). t.limit) c.self.view_is,
)

pub keep-clock-requires-clause-few : goal.keep-clock-requires-clause-few
keep-clock-requires-clause-few c = omega (
  arith,
  c.requires.few,
  c.self.invariant.clocks,
  OperationTables.few_clocks 0 c.self.inside.kept.items c.self.invariant.order,
  OperationTables.as_many c.self.inside.clocks.sites c.self.inside.kept.items c.self.inside.clocks.items,
  ap (λ (t : OperationTable). length t.items) c.self.view_is,
)

pub overflow_cast-clock : goal.overflow_cast-clock
overflow_cast-clock c =
    omega (
      arith,
      OperationTables.at_most _ _ c.keep-clock.ensures.number,
      c.requires.few,
      c.self.invariant.clocks,
      OperationTables.few_clocks 0 c.self.inside.kept.items c.self.invariant.order,
      OperationTables.as_many c.self.inside.clocks.sites c.self.inside.kept.items c.self.inside.clocks.items,
      ap (λ (t : OperationTable). length t.items) c.self.view_is,
    )

pub invariant_of-self : goal.invariant_of-self
invariant_of-self c =
    let bs = c.self.inside.kept.items in
    let longer = c.push_reserved.ensures.items in
    let step = subst (λ n. (c.keep-clock.result ≡ n) ⊎ (c.keep-clock.result + 1 ≡ n)) c.self.invariant.clocks c.keep-clock.ensures.number in
    record {
      clocks = c.keep-clock.ensures.count ∙ sym (ap (clock_count 0) longer ∙ OperationTables.count_more 0 bs _);
      order = OperationTables.order_pushed bs _ _ longer c.self.invariant.order step;
      operations_fit = omega (arith, c.push_reserved.ensures.capacity, c.self.invariant.operations_fit);
      clocks_fit = omega (arith, c.keep-clock.ensures.limit, c.self.invariant.clocks_fit);
    }

pub returns-clause-items : goal.returns-clause-items
returns-clause-items c =
    let w = c.self.inside.clocks.sites in
    let v = c.args.shadow.now in
    let n = c.keep-clock.result in
    let kept : KeptOperation = record {
      colour = c.colour.result;
      home = v.home;
      account = v.account;
      number = c.number.result;
      kind = v.kind;
      clock = n;
      amount = v.amount;
    } in
    let bs = c.self.inside.kept.items in
    let cs = c.self.inside.clocks.items in
    let ds = c.keep-clock.new.self.items in
    let (more, longer) = c.keep-clock.ensures.more in
    ap (λ k. operations_of k c.push_reserved.new.self.items ds) c.keep-clock.ensures.sites
    ∙ ap (λ xs. operations_of w xs ds) c.push_reserved.ensures.items
    ∙ ap (operations_of w (bs ++ kept ∷ [])) longer
    ∙ OperationTables.pushed w bs cs more kept c.self.invariant.order c.self.invariant.clocks
    ∙ ap (λ es. operations_of w bs cs ++ with_counts w kept (get_or es n []) ∷ []) (sym longer)
    ∙ ap (λ u. operations_of w bs cs ++ u ∷ []) (OperationTables.whole_again w n _ v _ _ c.colour.ensures
    c.number.ensures c.requires.home c.keep-clock.ensures.clock)
    ∙ ap (λ (t : OperationTable). t.items ++ v ∷ []) c.self.view_is
