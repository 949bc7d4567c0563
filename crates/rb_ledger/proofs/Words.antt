-- The words of other modules that the proofs here speak of.
pub use Rattle.rb_ledger.specs.Book.{Book, IsClocked}
pub use Rattle.rb_ledger.specs.Changes.{change, change_by, given_back, moved_at}
pub use Rattle.rb_ledger.specs.Checkpoints.{AreCheckpoints, as_of}
pub use Rattle.rb_ledger.specs.Checks.{has_wrong_target, overdraws, refusal_of, refusal_of_sound}
pub use Rattle.rb_ledger.specs.ClockLists.{AreNear, ClockTable, base_of, clocks_of, kept_step, step_added, steps_of}
pub use Rattle.rb_ledger.specs.ClockLists.{sums}
pub use Rattle.rb_ledger.specs.Cursor.{IsAt}
pub use Rattle.rb_ledger.specs.Index.{AreHeads, AreIndexRows, AreLinks, IsHead, IsIndex, IsIndexRow, IsLink, IsLinked}
pub use Rattle.rb_ledger.specs.Index.{all_cancelled, all_cancels, cancels_of, changed_at, counted_at, heads_at}
pub use Rattle.rb_ledger.specs.Index.{name_in_row, no_cancels, no_head, one_less, one_more, row_length}
pub use Rattle.rb_ledger.specs.LinkLists.{LinkTable, both_links, kept_link, link_at_place, marked_at, marks, other_link}
pub use Rattle.rb_ledger.specs.LinkLists.{own_link, second_balance}
pub use Rattle.rb_ledger.specs.OnAccount.{IsLast, IsNoneAfter, IsOn}
pub use Rattle.rb_ledger.specs.OperationLists.{IsOfSites, OperationTable, clock_count, clock_of_counts, kept_name}
pub use Rattle.rb_ledger.specs.OperationLists.{operations_of, padded, with_counts}
pub use Rattle.rb_ledger.specs.Records.{logged, record_at, records_of}
pub use Rattle.rb_ledger.specs.Rewinding.{Rewinding}
pub use Rattle.rb_ledger.specs.Table.{Table}
pub use Rattle.rb_ledger.specs.Valid.{HasTarget, IsValid, find_position, first_cancel_from, first_cancel_in}
pub use Rattle.rb_ledger.specs.Valid.{operation_at, parts_of, position_from, position_of}
pub use Rattle.rb_ledger.specs.declared.checkpoints.Checkpoints.{Checkpoints}
pub use Rattle.rb_ledger.specs.declared.counts.TheConstants.{LESS}
pub use Rattle.rb_ledger.specs.declared.index.Index.{Index}
pub use Rattle.rb_ledger.specs.declared.kept_operation.KeptOperation.{KeptOperation}
pub use Rattle.rb_ledger.specs.declared.link_list.OwnLink.{OwnLink}
pub use Rattle.rb_ledger.specs.declared.marks.Cancels.{Cancels}
pub use Rattle.rb_ledger.specs.declared.marks.Head.{Head}
pub use Rattle.rb_ledger.specs.declared.marks.Link.{Link}
pub use Rattle.rb_ledger.specs.declared.marks.Links.{Links}
pub use Rattle.rb_money.proofs.Public.Tests.{above, at_most, equal, is_below, not_below, number_same, number_sound}
pub use Rattle.rb_money.proofs.Public.Tests.{same_place, unequal}
pub use Rattle.rb_money.specs.Amounts.{cents}
pub use Rattle.rb_money.specs.Refusals.{unless}
pub use Rattle.rb_money.specs.Settings.{IsConfigured, Settings, start_of}
pub use Rattle.rb_money.specs.declared.cents.TheConstants.{MOST_CENTS}
pub use Rattle.rb_money.specs.declared.limits.TheConstants.{MOST_BALANCE, MOST_BLUE, MOST_OPERATIONS, MOST_RED}
pub use Rattle.rb_money.specs.declared.limits.TheConstants.{MOST_SITES}
pub use Rattle.rb_money.specs.declared.place.Place.{Place}
pub use Rattle.rb_money.specs.declared.place.TheConstants.Place.{NOWHERE}
pub use Rattle.rb_money.specs.declared.refusal.Refusal.{Refusal}
pub use Rattle.rb_money.specs.declared.refusal.Refusal.TheVariants.{BadMessage, Conflict, NotReady, WouldOverdraw}
pub use Rattle.rb_shadow.proofs.Public.Covered.{IsCovered, adds, takes}
pub use Rattle.rb_shadow.proofs.Public.SameShadows.{same_shadow-refl}
pub use Rattle.rb_shadow.proofs.Public.SoundFacts.{is_misdirected}
pub use Rattle.rb_shadow.specs.Laws.{IsPart}
pub use Rattle.rb_shadow.specs.Operations.{Among, AreSame, EachEntry, HasEntry, IsUnique, IsWithin, Precedes}
pub use Rattle.rb_shadow.specs.Operations.{accounts_on, arrived, bal, blue_count, cancel_count, cancels, colour_in}
pub use Rattle.rb_shadow.specs.Operations.{colour_of, delta, entry_of, find_in, is_blue_of, is_cancelled, is_eligible}
pub use Rattle.rb_shadow.specs.Operations.{is_on, is_red, kind_in, may_be_cancelled, moved, names, names_of_clock}
pub use Rattle.rb_shadow.specs.Operations.{number_of, other_of, past, receiver_of, red_count, row_of, same_colour}
pub use Rattle.rb_shadow.specs.Operations.{same_name, same_shadow, shown_colour, target_of, total}
pub use Rattle.rb_shadow.specs.Sound.{IsSound, are_entries, fault_of, is_foreign, limit_of}
pub use Rattle.rb_shadow.specs.declared.colour.Colour.{Colour}
pub use Rattle.rb_shadow.specs.declared.colour.Colour.TheVariants.{Blue as BlueColour, Red as RedColour}
pub use Rattle.rb_shadow.specs.declared.deps.Deps.{Deps}
pub use Rattle.rb_shadow.specs.declared.kind.Kind.{Kind}
pub use Rattle.rb_shadow.specs.declared.kind.Kind.TheVariants.{Cancel, Declined, Deposit, Interest, Transfer, Withdraw}
pub use Rattle.rb_shadow.specs.declared.op_name.OpName.{OpName}
pub use Rattle.rb_shadow.specs.declared.op_name.OpName.TheVariants.{Blue, Red}
pub use Rattle.rb_shadow.specs.declared.shadow.Shadow.{Shadow}
pub use Rattle.rb_undo.specs.Log.{Log}
pub use Rattle.rb_undo.specs.declared.parts.UndoParts.{UndoParts}
pub use Rattle.rb_vclock.specs.Clocks.{lowered, raised, zero_clock}
pub use Rattle.std.proofs.Common.{Bool, Bor, Err, FitsSigned, Global, List, None, Ok, OnErr, OnOk, Option, Result, Some}
pub use Rattle.std.proofs.Common.{Vec, [], add-one, ap, append_assoc, arith, cond, drop, drop-cons, false, get_or, inl}
pub use Rattle.std.proofs.Common.{inr, length, length-append, length-set, length-take-le, map, mul-le-mul_right, not}
pub use Rattle.std.proofs.Common.{refl, replicate, rules, set, slice_set, subst, suc, sym, take, true, vec_capacity}
pub use Rattle.std.proofs.Common.{vec_len, zero, ℕ, ◌&&◌, ◌*◌, ◌++◌, ◌+◌, ◌-◌, ◌<◌, ◌||◌, ◌∙◌, ◌∷◌, ◌≡◌, ◌≤◌, ◌⊎◌}
pub use Rattle.std.proofs.Math.Seq.{drop-append_seam, get_or-append_seam, map-set_same, take-append_seam, take-suc}
pub use Rattle.std.proofs.lemmas.Bool.{and_from, and_parts, cases_eq, cases_lt, not-false}
pub use Rattle.std.proofs.lemmas.Bool.Decides.{nat_tests}
pub use Rattle.std.proofs.lemmas.Int.{ints, to_z-of_z}
pub use Rattle.std.proofs.lemmas.List.{append-nil, drop-append-le, drop-drop, drop-take, get_or-replicate}
pub use Rattle.std.proofs.lemmas.List.{get_or-set_other, get_or-set_same, get_or-take, get_or_append_left, get_or_past}
pub use Rattle.std.proofs.lemmas.List.{get_or_push, get_or_read, length-drop, length-map, length-replicate, length_push}
pub use Rattle.std.proofs.lemmas.List.{map-set, map_push, replicate_more, set-append_left, set-get_or, set-set}
pub use Rattle.std.proofs.lemmas.List.{set_past, take-append-drop, take-append-le, take-take, take_all, take_at}
pub use Rattle.std.proofs.lemmas.List.{take_more}
pub use Rattle.std.proofs.lemmas.List.FromFn.{get_or-map-range_with_len}
pub use Rattle.std.proofs.lemmas.List.Sums.{count_by-le-length, sum_by-cons, sum_by_push}
pub use Rattle.std.proofs.lemmas.Option.{get_or_from_slice_get, slice_get-get_or, slice_get-map, slice_get_past}
pub use Rattle.std.proofs.lemmas.Option.{slice_get_read, slice_get_within}
pub use Rattle.std.proofs.lemmas.Result.{IfOk-from_err, on_err_weaker}
pub use Rattle.std.specs.Int.{w64}
pub use Rattle.std.specs.List.{list_any, range_with_len}
pub use Rattle.std.specs.Prelude.{IfSome, IsTrue, if◌then◌else◌, int_lt, is_some, nat_le, nat_lt, neg_ℤ, negsuc}
pub use Rattle.std.specs.Prelude.{option_and_then, option_copied, option_map, option_to_list, pos, slice_get}
pub use Rattle.std.specs.Prelude.{slice_index, unwrap_or, ℤ, ◌+ℤ◌, ◌==◌, ◌↔◌, ◌≤ℤ◌}
pub use Rattle.std.specs.Slice.{IsGetResult}
pub use Rattle.std.specs.declared.alloc.AllocError.{AllocError}
