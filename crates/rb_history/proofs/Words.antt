-- The words of other modules that the proofs here speak of.
pub use Rattle.json.proofs.Printed.Decimals.{IsNumber-decimal, IsNumber-signed_decimal}
pub use Rattle.json.proofs.Printed.Strings.{escape_byte_plain}
pub use Rattle.json.proofs.Printed.Utf8.{IsUtf8-are_ascii, IsUtf8-boolean, IsUtf8-quoted, are_ascii}
pub use Rattle.json.specs.Lex.{tokens}
pub use Rattle.json.specs.Print.{escape, quoted, token_text}
unfoldable pub use Rattle.json.specs.Print.{escape_byte}
pub use Rattle.json.specs.Token.{boolean}
pub use Rattle.json.specs.Tree.{HasNumbers, ItemsHaveNumbers, json_tokens}
pub use Rattle.rb_history.specs.Adds.{Adds}
pub use Rattle.rb_history.specs.Banks.{MessagesAreRead, OtherBanksAskNothing, QuestionsAreNoEvents, ReadEventsFit, event_beside}
pub use Rattle.rb_history.specs.Banks.{event_named, event_or, event_to, has_bank, has_other_bank, is_of_other, is_other_named}
pub use Rattle.rb_history.specs.Banks.{is_other_text, is_receipt, is_this_text, question_beside, question_named, question_or}
pub use Rattle.rb_history.specs.Banks.{receipt_member, sent_json}
pub use Rattle.rb_history.specs.Beginnings.{BeginsWithCounts, BeginsWithEvent, BeginsWithId, BeginsWithMember, BeginsWithNumbered}
pub use Rattle.rb_history.specs.Beginnings.{BeginsWithOwn, BeginsWithRequest, EndsWithId, IsBetween, account_behind_quote, behind_quote}
pub use Rattle.rb_history.specs.Commands.{ReadsCommands, command_at, command_for, command_of, event_of, sited_json, teller_event_of}
pub use Rattle.rb_history.specs.ConfigLines.{accounts_of, config_json, start_json}
pub use Rattle.rb_history.specs.Configurations.{accounts_at, accounts_in, config_at, config_from, config_in, config_of, has_known_keys}
pub use Rattle.rb_history.specs.Configurations.{is_version, limits_of, version_at}
pub use Rattle.rb_history.specs.Counts.{counts_at, counts_in, numbered_at, numbered_from, numbered_in, numbered_json, widened}
unfoldable pub use Rattle.rb_history.specs.Counts.{blue_at, blue_json}
pub use Rattle.rb_history.specs.Entries.{account_json, asked_entry_json, asked_entry_of_line, asked_entry_of_object, asked_event_at}
pub use Rattle.rb_history.specs.Entries.{asked_event_of_line, asked_json, deps_json, entry_in, entry_json, entry_with_id, event_json}
pub use Rattle.rb_history.specs.Entries.{event_with_id, last_members, request_json, shadow_json, token_json}
pub use Rattle.rb_history.specs.Fields.{field, label_at, six_in, six_of}
pub use Rattle.rb_history.specs.Fits.{Each, EntriesAreRead, EventsAreRead, IsCause, IsEvent, IsKind, IsKnown, IsMoved, IsRefusal, IsReply}
pub use Rattle.rb_history.specs.Fits.{IsRequest, IsShadow, IsStatementRow, ReadEntriesFit}
pub use Rattle.rb_history.specs.Ids.{AskedEntry, AskedEvent, IsAsked, IsIdOrNone, between_if_any, id_at, is_id, is_id_byte, may_be_asked}
pub use Rattle.rb_history.specs.Ids.{may_have_id}
pub use Rattle.rb_history.specs.KindWords.{label_of_word, word_of}
pub use Rattle.rb_history.specs.Questions.{question_asked, question_of, question_of_line}
pub use Rattle.rb_history.specs.Recorded.{deps_at, event_at, kind_at, kind_of, recorded_of, shadow_at, token_at}
pub use Rattle.rb_history.specs.Replies.{batch_json, behind_json, cause_json, line, refusal_json, reply_json}
pub use Rattle.rb_history.specs.RepliesRead.{answer_of, cause_at, find_refusal, is_word_declined, made_parsed, moved_parsed, names_at}
pub use Rattle.rb_history.specs.RepliesRead.{names_in, plain_refusals, refusal_parsed, reply_parsed, row_at, rows_at, rows_in, short_of}
pub use Rattle.rb_history.specs.RepliesRead.{simple_of, statement_parsed}
pub use Rattle.rb_history.specs.Requests.{ReadsRequests, account_place, asked_of, place_at, request_alone, request_of, requests_at}
pub use Rattle.rb_history.specs.Requests.{requests_in, transfer_at}
pub use Rattle.rb_history.specs.SitedLines.{EndsLine, behind_site}
pub use Rattle.rb_history.specs.Sites.{HeldNamesFitLines, IsFittingCommand, ReadCommandsFit, RepliesFitLines}
pub use Rattle.rb_history.specs.Statements.{row_json}
pub use Rattle.rb_history.specs.Values.{either, integer_json, list_json, name_at, name_json, number_below, number_json, one_json, pair_in}
pub use Rattle.rb_history.specs.Values.{pair_json, pair_of, size_of, three_in, three_json, three_of}
pub use Rattle.rb_history.specs.declared.fault.LineFault.{LineFault}
pub use Rattle.rb_history.specs.declared.fault.LineFault.TheVariants.{Bad}
pub use Rattle.rb_history.specs.declared.question.Question.{Question}
pub use Rattle.rb_ledger.proofs.Public.Legal.{IsValid-front, IsValid-none, IsValid-push, MayFollow, taken_rightly}
pub use Rattle.rb_ledger.proofs.Public.ValidClocks.{clock_is_clock, member_sound}
pub use Rattle.rb_ledger.specs.Checks.{has_wrong_target, overdraws, refusal_of_sound}
pub use Rattle.rb_ledger.specs.Valid.{HasTarget, IsValid, first_cancel_from}
pub use Rattle.rb_money.proofs.Public.Tests.{at_most, equal, is_below as below, is_below}
pub use Rattle.rb_money.specs.Amounts.{cents, is_amount}
pub use Rattle.rb_money.specs.Faults.{Account, account_fault, config_fault, is_among, settings_of}
pub use Rattle.rb_money.specs.Refusals.{and_then, number_of_refusal, unless}
pub use Rattle.rb_money.specs.Settings.{IsConfigured, IsVersion, Settings, in_version_2, is_account, is_account_name, is_name_byte}
pub use Rattle.rb_money.specs.Settings.{place_in, start_of, version_of}
pub use Rattle.rb_money.specs.declared.cents.TheConstants.{MOST_CENTS}
pub use Rattle.rb_money.specs.declared.limits.Limits.{Limits}
pub use Rattle.rb_money.specs.declared.limits.TheConstants.{MOST_ACCOUNTS, MOST_BALANCE, MOST_BLUE, MOST_EPOCH, MOST_HISTORY, MOST_INBOX}
pub use Rattle.rb_money.specs.declared.limits.TheConstants.{MOST_OPERATIONS, MOST_RED, MOST_SITES, MOST_SITES_OF_VERSION_1}
pub use Rattle.rb_money.specs.declared.place.Place.{Place}
pub use Rattle.rb_money.specs.declared.place.TheConstants.Place.{NOWHERE}
pub use Rattle.rb_money.specs.declared.refusal.Cause.TheVariants.{Declined as CauseDeclined, Refused as CauseRefused}
pub use Rattle.rb_money.specs.declared.refusal.Refusal.{Refusal}
pub use Rattle.rb_money.specs.declared.refusal.Refusal.TheVariants.{AlreadyCancelled, BadAmount, BadBatch, BadMessage, BadRate}
pub use Rattle.rb_money.specs.declared.refusal.Refusal.TheVariants.{BatchRefused, Conflict, DeltaTooLarge, HistoryFull, InboxFull}
pub use Rattle.rb_money.specs.declared.refusal.Refusal.TheVariants.{NeedToken, NoSite, NotCancellable, NotHeld, NotReady, NotYours}
pub use Rattle.rb_money.specs.declared.refusal.Refusal.TheVariants.{NumbersExhausted, OutOfMemory, PositionBeyond, RedBehind, SameAccount}
pub use Rattle.rb_money.specs.declared.refusal.Refusal.TheVariants.{UnknownAccount, UnknownOperation, WouldOverdraw}
pub use Rattle.rb_scratch.specs.Batches.{cause_of, made_in_batch, names_of_all}
unfoldable pub use Rattle.rb_scratch.specs.Batches.{batch_of}
pub use Rattle.rb_scratch.specs.Requests.{Plan, allowed_red, interest_on}
unfoldable pub use Rattle.rb_scratch.specs.Requests.{allowed, made_of, operation_of, plan_of}
pub use Rattle.rb_scratch.specs.declared.request.Request.{Request}
pub use Rattle.rb_scratch.specs.declared.request.Request.TheVariants.{Cancel, Deposit, Interest, Transfer, Withdraw}
pub use Rattle.rb_shadow.proofs.Public.Lookups.{found}
pub use Rattle.rb_shadow.proofs.Public.SoundFacts.{SoundFacts, sound_facts}
pub use Rattle.rb_shadow.specs.Labels.{label_of}
pub use Rattle.rb_shadow.specs.NameText.{IsName, candidate, is_name, name_of, name_text}
pub use Rattle.rb_shadow.specs.Operations.{Among, arrived, bal, blue_count, cancels, colour_in, delta, entry_of, find_in, is_blue_of}
pub use Rattle.rb_shadow.specs.Operations.{is_cancelled, is_eligible, is_on, is_red, may_be_cancelled, moved, names, number_of, receiver_of}
pub use Rattle.rb_shadow.specs.Operations.{red_count, same_colour, same_shadow, shown_colour, target_of, total}
unfoldable pub use Rattle.rb_shadow.specs.Operations.{clock_of}
pub use Rattle.rb_shadow.specs.Sound.{IsSound, are_entries, is_foreign, limit_of, may_be_nothing}
pub use Rattle.rb_shadow.proofs.Public.SoundFacts.{is_misdirected}
unfoldable pub use Rattle.rb_shadow.specs.Sound.{fault_of}
pub use Rattle.rb_shadow.specs.declared.kind.Kind.{Kind}
pub use Rattle.rb_shadow.specs.declared.kind.Kind.TheVariants.{Cancel as CancelKind, Declined as DeclinedKind, Deposit as DepositKind}
pub use Rattle.rb_shadow.specs.declared.kind.Kind.TheVariants.{Interest as InterestKind, Transfer as TransferKind, Withdraw as WithdrawKind}
pub use Rattle.rb_shadow.specs.declared.label.Label.{Label}
pub use Rattle.rb_shadow.specs.declared.label.Label.TheVariants.{Declined}
pub use Rattle.rb_shadow.specs.declared.op_name.OpName.{OpName}
pub use Rattle.rb_shadow.specs.declared.op_name.OpName.TheVariants.{Blue, Red}
pub use Rattle.rb_shadow.specs.declared.shadow.Shadow.{Shadow}
pub use Rattle.rb_site.specs.Events.{Answers, Applies, Drops, Holds, Makes, MakesAll, ModelSite, Outcome, Passes, Refuses, Shows, Takes}
pub use Rattle.rb_site.specs.Events.{after_event, after_events, changed, first_site, is_full, outcome_of_check, reply_of, sent_at, sent_by}
pub use Rattle.rb_site.specs.Events.{unless_known}
unfoldable pub use Rattle.rb_site.specs.Events.{outcome_of}
pub use Rattle.rb_site.specs.Worlds.{IsOwn}
pub use Rattle.rb_site.specs.declared.entry.Entry.{Entry}
pub use Rattle.rb_site.specs.declared.event.Event.{Event}
pub use Rattle.rb_site.specs.declared.event.Event.TheVariants.{Apply, AsOf, Balance, Batch, Pass, Receive, Statement as AskStatement}
pub use Rattle.rb_site.specs.declared.event.Event.TheVariants.{Statement, Submit}
pub use Rattle.rb_site.specs.declared.message.Message.{Message}
pub use Rattle.rb_site.specs.declared.message.Message.TheVariants.{Shadow as ShadowMessage, Token as TokenOnItsWay}
pub use Rattle.rb_site.specs.declared.reply.Reply.{Reply}
pub use Rattle.rb_site.specs.declared.reply.Reply.TheVariants.{Already, Applied, Balance as BalanceIs, Held, Made, Names, Passed, Refused}
pub use Rattle.rb_site.specs.declared.reply.Reply.TheVariants.{Stale, Statement as StatementIs, Taken}
pub use Rattle.rb_site.specs.declared.world_event.WorldEvent.{WorldEvent}
pub use Rattle.rb_site.specs.declared.world_event.WorldEvent.TheVariants.{At, Deliver}
pub use Rattle.rb_statements.specs.declared.row.Row.{Row}
pub use Rattle.rb_token.specs.Token.{Token, is_stale, pass_message, refusal_of_pass, refusal_of_red, refusal_of_token}
pub use Rattle.rb_token.specs.declared.message.TokenMessage.{TokenMessage}
pub use Rattle.serde_json.proofs.Numbers.{number_of-decimal, number_of-negative}
pub use Rattle.serde_json.proofs.Views.{get_member-put, get_member-put_other}
pub use Rattle.serde_json.specs.Data.{Data, Items, Members, Num, array, float, item, member, negative, no_items, no_members, null, number}
pub use Rattle.serde_json.specs.Data.{object, put, string, unsigned}
pub use Rattle.serde_json.specs.Events.{members_len}
pub use Rattle.serde_json.specs.Find.{as_array, as_bool, as_i64, as_number, as_object, as_str, as_u64, get, get_member, of_integer}
pub use Rattle.serde_json.specs.Read.{max_depth, of_items, of_json, of_members, read}
pub use Rattle.serde_json.specs.View.{items_of, items_view, view}
pub use Rattle.serde_json.specs.Written.{comma_if, compact_text, items_outline, items_text, members_text, number_text, outline}
pub use Rattle.serde_json.specs.declared.value.Value.{Value}
pub use Rattle.std.proofs.Common.{Bool, Equal, Err, FitsSigned, Float, Greater, IfSome, IsUtf8, Less, List, None, Ok, Option, Ordering}
pub use Rattle.std.proofs.Common.{Result, Some, [], add-one, add-zero, ap, append-nil, append_assoc, ap₂, arith, bytes_eq, codes, cond}
pub use Rattle.std.proofs.Common.{decimal, drop, drop-cons, false, get_or, inl, inr, is_eq, length, length-append, lit<, nat_cmp, negsuc}
pub use Rattle.std.proofs.Common.{not, of_z, pos, refl, rules, set, slice_set, subst, suc, sym, take, take-append-drop, to_z, true}
pub use Rattle.std.proofs.Common.{true≢false, w64, zero, ℕ, ℤ, ◌%◌, ◌&&◌, ◌*◌, ◌++◌, ◌+◌, ◌-◌, ◌/◌, ◌<◌, ◌==◌, ◌^◌, ◌||◌, ◌∙◌, ◌∷◌, ◌≡◌}
pub use Rattle.std.proofs.Common.{◌≤◌}
pub use Rattle.std.proofs.Math.Seq.{set-append_seam, take-add, take-length}
pub use Rattle.std.proofs.lemmas.Bool.{and_parts, cases_eq, cases_lt, eqb-false, eqb-true, le-leb, leb-true, ltb-true, ne_eqb, not-true}
pub use Rattle.std.proofs.lemmas.Bool.{not-false, or_cases, or_parts, or_right}
pub use Rattle.std.proofs.lemmas.Bool.Decides.{nat_tests}
pub use Rattle.std.proofs.lemmas.Fmt.{decimal_digit, decimal_step, digits_decimal}
pub use Rattle.std.proofs.lemmas.Grind.{take-set_at}
pub use Rattle.std.proofs.lemmas.Int.{ints, to_z-of_z}
pub use Rattle.std.proofs.lemmas.List.{drop-drop, drop-replicate, drop-set-lt, drop_all, drop_at, length-drop, length-map, length-replicate}
pub use Rattle.std.proofs.lemmas.List.{length-take-le, map-append, replicate_more, take-replicate, take_all, take_at, take_more}
pub use Rattle.std.proofs.lemmas.List.{take_more_set}
pub use Rattle.std.proofs.lemmas.List.Quantifiers.{position-Some}
pub use Rattle.std.proofs.lemmas.Map.Text.{is_eq-slice_cmp}
pub use Rattle.std.proofs.lemmas.Option.{IfSome_then, slice_get-get_or, slice_get_past}
pub use Rattle.std.proofs.lemmas.Slice.Eq.{bytes_eq-Decides}
pub use Rattle.std.proofs.lemmas.Str.{IsCharBoundary-after_ascii, IsCharBoundary-from_take, IsUtf8-append, IsUtf8-nil, is_utf8-from_IsUtf8}
pub use Rattle.std.specs.Cmp.Lexicographic.{slice_cmp}
pub use Rattle.std.specs.Fmt.{digit_glyph, digits_onto, signed_decimal}
unfoldable pub use Rattle.std.specs.Fmt.{digits}
pub use Rattle.std.specs.Int.{to_le_bytes, w32}
pub use Rattle.std.specs.List.{list_all, position, position_from}
pub use Rattle.std.specs.Ordering.{match_ordering}
pub use Rattle.std.specs.Prelude.{IfErr, IfOk, MatchOption, MatchResult, count_by, filter, if◌then◌else◌, is_none, is_some, map, nat_le}
pub use Rattle.std.specs.Prelude.{nat_lt, neg_ℤ, option_and_then, option_map, replicate, slice_get, slice_index, unwrap_or, ⊤, ◌+ℤ◌, ◌≤ℤ◌}
pub use Rattle.std.specs.Prelude.{◌⊎◌}
pub use Rattle.std.specs.Result.{IsErr}
pub use Rattle.std.specs.Str.{IsCharBoundary, is_utf8}
pub use denote.Shadow.{shadow}
pub use denote.Text.{Utf8}
