use Rattle.rb_ledger.proofs.Words.{true, false, refl, ◌+◌, ◌≡◌, ◌≤◌, length, ◌++◌, ◌∷◌, [], subst, sym, ap, ◌∙◌, arith}
use Rattle.rb_ledger.proofs.Words.{length_push, IsConfigured, Settings, Book, UndoParts, IsIndex, IsLinked, AreHeads}
use Rattle.rb_ledger.proofs.Words.{all_cancelled, marked_at, target_of, IsValid, parts_of, position_of}
use Rattle.rb_ledger.proofs.CancelFacts
use Rattle.rb_ledger.proofs.CancelMarks
use Rattle.rb_ledger.proofs.ChainFacts
use Rattle.rb_ledger.proofs.CheckpointFacts
use Rattle.rb_ledger.proofs.Indexed
use Rattle.rb_ledger.proofs.Lengths
use Rattle.rb_shadow.proofs.Public.SoundFacts
use Rattle.rb_ledger.proofs.Public.Legal
use Rattle.rb_ledger.proofs.OperationTables
use Rattle.rb_ledger.proofs.ledger.Ledger.apply_valid.Goals as goal

pub links_of-links-requires-clause-configured : goal.links_of-links-requires-clause-configured
links_of-links-requires-clause-configured c = subst (λ (b : Book). IsConfigured b.settings) c.self.view_is
    c.self.invariant.index.clocked.configured

pub invariant_of-self : goal.invariant_of-self
invariant_of-self c =
    let links = subst (λ (b : Book). IsLinked b.settings b.entries c.args.shadow.now c.links_of-links.result) (sym c.self.view_is)
    c.links_of-links.ensures in
    let longer = ap length c.push-3.ensures.items ∙ length_push c.self.inside.entries.items c.args.shadow.now in
    let room = c.self.invariant.room in
    let target : c.parts-parts.result.target ≡ position_of c.self.inside.entries.items (target_of c.args.shadow.now.kind) =
    ap (λ (p : UndoParts). p.target) c.parts-parts.ensures ∙ ap (λ us. position_of us (target_of c.args.shadow.now.kind)) c.all.ensures in
    let longer_valid = subst (λ us. IsValid c.args.self.now.settings (us ++ c.args.shadow.now ∷ []))
    (sym (ap (λ (b : Book). b.entries) c.self.view_is ∙ c.in_ok-make_room.ensures.entries)) c.requires in
    let pushed = subst (λ us. IsIndex c.self.inside.index.config (us ++ c.args.shadow.now ∷ []) c.push.new.self) c.all-2.ensures
    c.push.ensures.index in
    let heads = subst (AreHeads c.self.inside.index.config (c.self.inside.entries.items ++ c.args.shadow.now ∷ []))
    (sym c.deref.ensures.value) pushed.heads in
    let count : c.parts-parts.result.position ≡ length c.self.inside.entries.items + 1 =
    omega (arith, ap (λ (p : UndoParts). p.position) c.parts-parts.ensures, ap length c.all.ensures) in
    record {
      index = subst (λ us. IsIndex c.push.new.self.config us c.push.new.self) (ap
          (λ us. us ++ c.args.shadow.now ∷ []) c.all-2.ensures
          ∙ sym c.push-3.ensures.items) (Indexed.own _ _ _ c.push.ensures.index);
      links = ChainFacts.links_moved _ _ _ _ _ _ (ChainFacts.links_push _ _ c.args.shadow.now _ _ c.self.invariant.links links)
          c.push.ensures.index.config c.push-3.ensures.items
          (c.push-2.ensures.items ∙ ap (λ ls. ls ++ c.links_of-links.result ∷ []) c.mark.ensures.items);
      cancelled = c.push-2.ensures.cancelled ∙ ap (λ bs. bs ++ false ∷ []) (c.mark.ensures.cancelled
          ∙ ap (marked_at c.parts-parts.result.target true) c.self.invariant.cancelled ∙ ap (λ n. marked_at n true (all_cancelled
          c.self.inside.entries.items)) target)
          ∙ sym (CancelMarks.marks_push c.args.self.now.settings _ c.args.shadow.now longer_valid)
          ∙ ap all_cancelled (sym c.push-3.ensures.items);
      checkpoints = CheckpointFacts.moved _ _ _ _ _ _ (c.push-4.ensures.checkpoints _ _ c.args.shadow.now
          c.self.invariant.index.clocked.configured c.self.invariant.checkpoints heads count) c.push.ensures.index.config
          c.push-3.ensures.items refl refl refl;
      sites = omega (arith, c.push-3.ensures.sites, c.self.invariant.sites, ap (λ (s : Settings). s.sites) c.push.ensures.index.config);
      room = record {
        within = omega (arith, longer, c.push.ensures.limit, ap (λ (b : Book). b.room) c.self.view_is, c.in_ok-make_room.ensures.ok);
        entries = omega (arith, c.push-3.ensures.limit, c.push.ensures.limit, room.entries);
        cancels = omega (arith, c.push.ensures.capacity, c.push.ensures.limit, room.cancels);
        links = omega (arith, c.push-2.ensures.limit, c.mark.ensures.limit, c.push.ensures.limit, room.links);
        checkpoints = omega (arith, c.push-4.ensures.capacity, c.push.ensures.limit, room.checkpoints);
      };
    }

pub parts-parts-requires-clause-longer : goal.parts-parts-requires-clause-longer
parts-parts-requires-clause-longer c =
    let settings = ap (λ (b : Book). b.settings) c.self.view_is ∙ c.in_ok-make_room.ensures.settings in
    let entries = c.all.ensures ∙ ap (λ (b : Book). b.entries) c.self.view_is ∙ c.in_ok-make_room.ensures.entries in
    subst (λ s. IsValid s (c.all.result ++ c.args.shadow.now ∷ [])) (sym settings)
    (subst (λ us. IsValid c.args.self.now.settings (us ++ c.args.shadow.now ∷ [])) (sym entries) c.requires)

pub push-requires-clause-links : goal.push-requires-clause-links
push-requires-clause-links c =
    let links = subst (λ (b : Book). IsLinked b.settings b.entries c.args.shadow.now c.links_of-links.result) (sym c.self.view_is)
    c.links_of-links.ensures in
    subst (λ us. IsLinked c.self.inside.index.config us c.args.shadow.now c.links_of-links.result) (sym c.all-2.ensures) links

pub push-requires-clause-rows : goal.push-requires-clause-rows
push-requires-clause-rows c =
    omega (arith, ap length c.all-2.ensures, ap (λ (b : Book). b.room) c.self.view_is, c.in_ok-make_room.ensures.ok)

pub returns-clause-settings : goal.returns-clause-settings
returns-clause-settings c = c.push.ensures.index.config ∙ ap (λ (b : Book). b.settings) c.self.view_is ∙ c.in_ok-make_room.ensures.settings

pub parts-parts-requires-clause-index : goal.parts-parts-requires-clause-index
parts-parts-requires-clause-index c = subst (λ us. IsIndex c.self.inside.index.config us c.self.inside.index) (sym c.all.ensures)
    c.self.invariant.index

pub links_of-links-requires-clause-valid : goal.links_of-links-requires-clause-valid
links_of-links-requires-clause-valid c =
    subst (λ s. IsValid s (c.make_room.new.self.entries ++ c.args.shadow.now ∷ [])) (sym c.in_ok-make_room.ensures.settings)
    (subst (λ us. IsValid c.args.self.now.settings (us ++ c.args.shadow.now ∷ [])) (sym c.in_ok-make_room.ensures.entries) c.requires)

pub links_of-links-requires-clause-parts : goal.links_of-links-requires-clause-parts
links_of-links-requires-clause-parts c =
    c.parts-parts.ensures ∙ ap (λ us. parts_of c.self.inside.index.config us c.args.shadow.now) c.all.ensures
    ∙ ap (λ (b : Book). parts_of b.settings b.entries c.args.shadow.now) c.self.view_is

pub push-requires-clause-index : goal.push-requires-clause-index
push-requires-clause-index c = subst (λ us. IsIndex c.self.inside.index.config us c.self.inside.index) (sym c.all-2.ensures)
    c.self.invariant.index

pub push-requires-clause-longer : goal.push-requires-clause-longer
push-requires-clause-longer c =
    let settings = ap (λ (b : Book). b.settings) c.self.view_is ∙ c.in_ok-make_room.ensures.settings in
    let entries = c.all-2.ensures ∙ ap (λ (b : Book). b.entries) c.self.view_is ∙ c.in_ok-make_room.ensures.entries in
    subst (λ s. IsValid s (c.all-2.result ++ c.args.shadow.now ∷ [])) (sym settings)
    (subst (λ us. IsValid c.args.self.now.settings (us ++ c.args.shadow.now ∷ [])) (sym entries) c.requires)

pub push-requires-clause-parts : goal.push-requires-clause-parts
push-requires-clause-parts c = c.parts-parts.ensures
    ∙ ap (λ us. parts_of c.self.inside.index.config us c.args.shadow.now) (c.all.ensures ∙ sym c.all-2.ensures)

pub push-requires-2-clause-room : goal.push-requires-2-clause-room
push-requires-2-clause-room c =
    omega (
      arith,
      ap (λ (b : Book). b.room) c.self.view_is,
      c.in_ok-make_room.ensures.ok,
      c.self.invariant.room.links,
      c.mark.ensures.limit,
      ap length c.mark.ensures.items,
      c.self.invariant.links.count,
    )

pub push-requires-2-clause-few : goal.push-requires-2-clause-few
push-requires-2-clause-few c =
    omega (
      arith,
      c.self.invariant.links.count,
      ap length c.mark.ensures.items,
      ap (λ (b : Book). length b.entries) c.self.view_is,
      ap length c.in_ok-make_room.ensures.entries,
      length_push c.args.self.now.entries c.args.shadow.now,
      Lengths.valid_length _ _ (subst IsConfigured c.in_ok-make_room.ensures.settings
          (subst (λ (b : Book). IsConfigured b.settings) c.self.view_is c.self.invariant.index.clocked.configured)) c.requires,
    )

pub push-requires-3-clause-sites : goal.push-requires-3-clause-sites
push-requires-3-clause-sites c =
    let v = c.args.shadow.now in
    let settings = ap (λ (b : Book). b.settings) c.self.view_is ∙ c.in_ok-make_room.ensures.settings in
    let sound = (Legal.IsValid-last _ _ v c.requires).sound in
    OperationTables.of_sites c.args.self.now.settings v _ sound (subst (λ (s : Settings). s.sites ≤ c.self.inside.entries.sites) settings
    c.self.invariant.sites)

pub push-requires-3-clause-room : goal.push-requires-3-clause-room
push-requires-3-clause-room c =
    omega (arith, ap (λ (b : Book). b.room) c.self.view_is, c.in_ok-make_room.ensures.ok, c.self.invariant.room.entries)

pub push-requires-4-clause-there : goal.push-requires-4-clause-there
push-requires-4-clause-there c = (c.self.inside.index.config, c.self.inside.entries.items, c.self.invariant.checkpoints)

pub push-requires-4-clause-accounts : goal.push-requires-4-clause-accounts
push-requires-4-clause-accounts c =
    omega (arith, ap length c.deref.ensures.value, c.push.ensures.index.heads.count, c.self.invariant.checkpoints.accounts)

pub push-requires-4-clause-few : goal.push-requires-4-clause-few
push-requires-4-clause-few c =
    let configured = c.self.invariant.index.clocked.configured in
    omega (arith, configured.few_accounts, configured.starts_of_all, c.self.invariant.checkpoints.accounts)

pub push-requires-4-clause-count : goal.push-requires-4-clause-count
push-requires-4-clause-count c =
    omega (
      arith,
      ap (λ (p : UndoParts). p.position) c.parts-parts.ensures,
      ap length c.all.ensures,
      ap (λ (b : Book). length b.entries) c.self.view_is,
      ap length c.in_ok-make_room.ensures.entries,
      length_push c.args.self.now.entries c.args.shadow.now,
      Lengths.valid_length _ _ (subst IsConfigured c.in_ok-make_room.ensures.settings
          (subst (λ (b : Book). IsConfigured b.settings) c.self.view_is c.self.invariant.index.clocked.configured)) c.requires,
    )

pub push-requires-4-clause-room : goal.push-requires-4-clause-room
push-requires-4-clause-room c =
    omega (
      arith,
      ap (λ (p : UndoParts). p.position) c.parts-parts.ensures,
      ap length c.all.ensures,
      ap (λ (b : Book). b.room) c.self.view_is,
      c.in_ok-make_room.ensures.ok,
      c.self.invariant.room.checkpoints,
    )

pub returns-clause-applied : goal.returns-clause-applied
returns-clause-applied c = (
  c.push-3.ensures.items
      ∙ ap (λ us. us ++ c.args.shadow.now ∷ []) (ap (λ (b : Book). b.entries) c.self.view_is ∙ c.in_ok-make_room.ensures.entries),
  c.new.ensures
      ∙ c.parts-parts.ensures
      ∙ ap (λ us. parts_of c.self.inside.index.config us c.args.shadow.now) c.all.ensures
      ∙ ap (λ (b : Book). parts_of b.settings b.entries c.args.shadow.now) c.self.view_is
      ∙ ap (λ s. parts_of s c.make_room.new.self.entries c.args.shadow.now) c.in_ok-make_room.ensures.settings
      ∙ ap (λ us. parts_of c.args.self.now.settings us c.args.shadow.now) c.in_ok-make_room.ensures.entries,
)

pub returns-clause-room : goal.returns-clause-room
returns-clause-room c = λ some.
    omega (
      arith,
      ap (λ (b : Book). b.room) c.self.view_is,
      ap (λ (b : Book). b.room) (c.in_ok-make_room.ensures.room some),
      c.in_ok-make_room.ensures.ok,
      c.push.ensures.limit,
      ap length c.push-3.ensures.items,
      length_push c.self.inside.entries.items c.args.shadow.now,
    )

pub push-requires-3-clause-few : goal.push-requires-3-clause-few
push-requires-3-clause-few c =
    omega (
      arith,
      ap (λ (b : Book). length b.entries) c.self.view_is,
      ap length c.in_ok-make_room.ensures.entries,
      length_push c.args.self.now.entries c.args.shadow.now,
      Lengths.valid_length _ _ (subst IsConfigured c.in_ok-make_room.ensures.settings
          (subst (λ (b : Book). IsConfigured b.settings) c.self.view_is c.self.invariant.index.clocked.configured)) c.requires,
    )

pub push-requires-3-clause-own : goal.push-requires-3-clause-own
push-requires-3-clause-own c = (SoundFacts.is_next _ c.args.shadow.now (Legal.IsValid-last _ _ c.args.shadow.now c.requires).sound).own

pub push-requires-3-clause-home : goal.push-requires-3-clause-home
push-requires-3-clause-home c = (SoundFacts.sound_facts _ c.args.shadow.now (Legal.IsValid-last _ _ c.args.shadow.now c.requires).sound).own

pub mark-requires : goal.mark-requires
mark-requires c =
    let target : c.parts-parts.result.target ≡ position_of c.self.inside.entries.items (target_of c.args.shadow.now.kind) =
    ap (λ (p : UndoParts). p.target) c.parts-parts.ensures ∙ ap (λ us. position_of us (target_of c.args.shadow.now.kind)) c.all.ensures in
    let longer_valid = subst (λ us. IsValid c.args.self.now.settings (us ++ c.args.shadow.now ∷ []))
    (sym (ap (λ (b : Book). b.entries) c.self.view_is ∙ c.in_ok-make_room.ensures.entries)) c.requires in
    omega (
      arith,
      target,
      c.self.invariant.links.count,
      CancelFacts.target_within c.self.inside.entries.items c.args.shadow.now
          (Legal.IsValid-last _ _ c.args.shadow.now longer_valid).target,
    )
