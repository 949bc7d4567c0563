-- The words of other modules that several proofs here speak of.
pub use Rattle.rb_auditor.specs.Audits.{Audited, HasMore}
pub use Rattle.rb_history.proofs.Public.Each.{each_both}
pub use Rattle.rb_history.specs.ConfigLines.{ConfigsAreRead, config_json}
pub use Rattle.rb_history.specs.Configurations.{config_at, config_on}
pub use Rattle.rb_history.specs.Entries.{asked_entry_json, asked_entry_of_line, asked_entry_on, entry_json, entry_of_line, entry_on}
pub use Rattle.rb_history.specs.Fits.{Each, EntriesAreRead, IsEvent, IsKind, IsRequest, IsShadow, ReadEntriesFit}
pub use Rattle.rb_history.specs.Ids.{AskedEntry, IsAsked, IsIdOrNone}
pub use Rattle.rb_history.specs.Laws.{ReadConfigsAreConfigured}
pub use Rattle.rb_history.specs.OnLines.{command_on}
pub use Rattle.rb_history.specs.OneLine.{ConfigsAreLines, EntriesAreLines, IsOneLine}
pub use Rattle.rb_history.specs.Sites.{IsFittingCommand, ReadCommandsFit, RepliesFitLines}
pub use Rattle.rb_history.specs.Verdicts.{open_json, order_json, verdict_line}
pub use Rattle.rb_ledger.proofs.Public.Legal.{covers}
pub use Rattle.rb_ledger.proofs.Public.ValidClocks.{member_sound, none_past, valid_counted, within_limit}
pub use Rattle.rb_ledger.specs.Valid.{IsValid}
pub use Rattle.rb_lines.specs.Answers.{IsSilent, IsUnfinished, LinesOutcome, RunEndsAs, after_text, no_outcome}
pub use Rattle.rb_lines.specs.Buffers.{Sends}
pub use Rattle.rb_lines.specs.Lines.{is_blank, is_long, line_len, lines_of, whole_lines}
pub use Rattle.rb_lines.specs.Writes.{AppendsFront}
pub use Rattle.rb_lines.specs.declared.fault.ScriptFault.{ScriptFault}
pub use Rattle.rb_lines.specs.declared.fault.ScriptFault.TheVariants.{BadConfig, BadLine, Gather, LongLine, NoConfig, OutOfMemory, Read}
pub use Rattle.rb_lines.specs.declared.fault.ScriptFault.TheVariants.{Write, Write as NotWritten}
pub use Rattle.rb_money.specs.Amounts.{cents}
pub use Rattle.rb_money.specs.Faults.{Account, account_fault, account_of, are_limits, config_fault, is_among, settings_of}
pub use Rattle.rb_money.specs.Settings.{IsConfigured, IsVersion, Settings, in_version_2, is_account_name, start_of, version_of}
pub use Rattle.rb_money.specs.declared.cents.TheConstants.{MOST_CENTS}
pub use Rattle.rb_money.specs.declared.limits.Limits.{Limits}
pub use Rattle.rb_money.specs.declared.limits.TheConstants.{MOST_ACCOUNTS, MOST_BLUE, MOST_RED, MOST_SITES}
pub use Rattle.rb_money.specs.declared.place.Place.{Place}
pub use Rattle.rb_money.specs.declared.refusal.Refusal.TheVariants.{BadBatch, BatchRefused, HistoryFull, NoSite, NumbersExhausted}
pub use Rattle.rb_runs.specs.AddedAccounts.{IsAddedFault, added_fault}
pub use Rattle.rb_runs.specs.Audit.{AuditEndsAs, IsFaultLine, ReportsVerdict}
pub use Rattle.rb_runs.specs.BookLaws.{AnswersArePeriods, ArePeriods, CarriedForward, ClosedBalancesAgree, HasUpTo, IsBank}
pub use Rattle.rb_runs.specs.BookLaws.{IsCarriedForward, NextIsConfigured, OpenListsAreLacking, Period, PeriodsAreOne, applied_over}
pub use Rattle.rb_runs.specs.BookLaws.{kept_over, period_of, settings_after, settings_behind, sum_of_accounts}
pub use Rattle.rb_runs.specs.Books.{IsFirstAbove, MayBeClosed, NextBank, ReportsBalances, ReportsClosing, ReportsOpen, StartsNext}
pub use Rattle.rb_runs.specs.Books.{applied_by, applied_from, applied_in, input_at, lacked, lacks, next_accounts, next_names}
pub use Rattle.rb_runs.specs.Books.{next_settings, next_version, next_with, sites_of_next}
pub use Rattle.rb_runs.specs.Closes.{ClosesAs, HasTaken}
pub use Rattle.rb_runs.specs.Collects.{input_rest}
pub use Rattle.rb_runs.specs.InputLaws.{HasShortLines, InputsAreReadBack, IsWritable, by_site, entries_text, input_text, with_entries}
pub use Rattle.rb_runs.specs.Inputs.{Input, input_after, input_from, input_of, with_entry}
pub use Rattle.rb_runs.specs.JournalFiles.{EndsAtFile, TakesFile, counted, entry_of_site, is_head, is_sealed, journal_lines}
pub use Rattle.rb_runs.specs.JournalFiles.{journal_reason_of, next, with_files, with_journal, with_journal_lines, with_lines, with_next}
pub use Rattle.rb_runs.specs.Migration.{entries_from, migrated_config_line, migrated_entry_line, migration_from}
pub use Rattle.rb_runs.specs.MigrationLaws.{MigratedEntriesAreRead, MigrationsAreRead, ReplaysAreEqual}
pub use Rattle.rb_runs.specs.MigrationSession.{migration_rest}
pub use Rattle.rb_runs.specs.Recording.{BeginsHistories, HistoriesEndAs, recording_by, recording_from, recording_in, recording_of}
pub use Rattle.rb_runs.specs.RecordingSession.{recorder_rest}
pub use Rattle.rb_runs.specs.Script.{Commands, commands_from, script_from, script_outcome, stops, with_command}
pub use Rattle.rb_runs.specs.ScriptSession.{TakesCommand, session_rest}
pub use Rattle.rb_runs.specs.Silent.{EndsSilently, HasInput, IsUnfinishedInput, StopsUnwritten, input_outcome, unanswered}
pub use Rattle.rb_runs.specs.TakesLines.{TakesLine, first_lines, lines_state, makes_nothing}
pub use Rattle.rb_runs.specs.Texts.{config_line, entry_line, histories_text, history_text, text_of}
pub use Rattle.rb_scratch.specs.declared.request.Request.{Request}
pub use Rattle.rb_scratch.specs.declared.request.Request.TheVariants.{Deposit}
pub use Rattle.rb_shadow.specs.Operations.{Agree, Among, AreSame, arrived, bal, blue_count, clock_of, delta, is_on, is_red, kept, moved}
pub use Rattle.rb_shadow.specs.Operations.{names, names_of_clock, number_of, receiver_of, red_count, same_kind, total}
pub use Rattle.rb_shadow.specs.Sound.{limit_of}
pub use Rattle.rb_shadow.proofs.Public.SoundFacts.{is_misdirected}
pub use Rattle.rb_shadow.specs.declared.kind.Kind.TheVariants.{Cancel as CancelKind, Declined}
pub use Rattle.rb_shadow.specs.declared.op_name.OpName.{OpName}
pub use Rattle.rb_shadow.specs.declared.op_name.OpName.TheVariants.{Blue, Red}
pub use Rattle.rb_shadow.specs.declared.shadow.Shadow.{Shadow}
pub use Rattle.rb_site.proofs.Public.Lists.{get_front, map_at, map_back}
pub use Rattle.rb_site.proofs.Public.Places.{get_set_other, get_set_same, same_number}
pub use Rattle.rb_site.proofs.Public.Recorded.{me_after, placed}
pub use Rattle.rb_site.proofs.Public.Runs.{IsRunOfItsHistory, after_events-append, noted, run_goes_on}
pub use Rattle.rb_site.proofs.Public.Stuck.{among-cases, among-right, first_sites, sends-append}
pub use Rattle.rb_site.specs.Events.{Applies, Makes, MakesAll, ModelSite, Outcome, Refuses, Shows, after_event, after_events, changed}
pub use Rattle.rb_site.specs.Events.{first_site, is_full, outcome_of, replies_to_events, reply_of, reply_to, sent_at, sent_by}
pub use Rattle.rb_site.specs.Histories.{AreOneWorlds, IsAmong, histories_of, history_of, sends_of, with_replies}
pub use Rattle.rb_site.specs.Reports.{AreReports, balances_of}
pub use Rattle.rb_site.specs.Seen.{SeenSite, state_of}
pub use Rattle.rb_site.specs.Worlds.{AreOwn, World, first_world, made_in, message_at, shadows_in, world_after, world_after_all, world_at}
pub use Rattle.rb_site.specs.Worlds.{world_of_run}
pub use Rattle.rb_site.specs.declared.entry.Entry.{Entry}
pub use Rattle.rb_site.specs.declared.event.Event.{Event}
pub use Rattle.rb_site.specs.declared.event.Event.TheVariants.{Batch, Receive, Submit}
pub use Rattle.rb_site.specs.declared.message.Message.{Message}
pub use Rattle.rb_site.specs.declared.message.Message.TheVariants.{Shadow as ShadowMessage, Token as TokenOnItsWay}
pub use Rattle.rb_site.specs.declared.reply.Reply.TheVariants.{Refused, Statement as StatementIs}
pub use Rattle.rb_site.specs.declared.report.SiteReport.{SiteReport}
pub use Rattle.rb_site.specs.declared.world_event.WorldEvent.{WorldEvent}
pub use Rattle.rb_site.specs.declared.world_event.WorldEvent.TheVariants.{At, Deliver}
pub use Rattle.rb_world.proofs.Public.{sites_of_run}
pub use Rattle.rb_world.specs.Laws.{Always, Headline, OtherLaws, SeenWorld, next_world, next_worlds, opened}
pub use Rattle.serde_json.specs.Written.{compact_text}
pub use Rattle.std.proofs.Common.{◌&&◌, ◌++◌, ◌+◌, ◌<◌, ◌==◌, ◌∙◌, ◌∷◌, ◌≡◌, ◌≢◌, ◌≤◌, ◌⊎◌, Bool, Bor, Err, IfOk, List, None, Ok, Option}
pub use Rattle.std.proofs.Common.{Result, Some, Vec, [], add-one, add-zero, ap, append-nil, append_assoc, ap₂, arith, codes, cond, drop}
pub use Rattle.std.proofs.Common.{drop-cons, eq-eqb, false, get_or, inl, inr, length, map, ne_eqb, not, position, refl, replicate, rules}
pub use Rattle.std.proofs.Common.{slice_get, subst, suc, sym, take, take-append-drop, true, vec_len, zero, zero-add, ℕ}
pub use Rattle.std.proofs.KnownBytes.{Appends-trans}
pub use Rattle.std.proofs.lemmas.Bool.{and_from, and_parts, false_from_ne_true, false≢true, ltb-false, ltb-true, not-true, not_from_false}
pub use Rattle.std.proofs.lemmas.Bool.Decides.{nat_tests}
pub use Rattle.std.proofs.lemmas.Int.{ints}
pub use Rattle.std.proofs.lemmas.List.{drop_more, get_or-map, get_or_past, length-append, length-drop, length-map, length-replicate}
pub use Rattle.std.proofs.lemmas.List.{length-take-le, map-append, take-append-le, take_more, take_rest}
pub use Rattle.std.proofs.lemmas.List.FromFn.{get_or-map-range_with_len, length-map-range_with_len, map-range_with_len_more}
pub use Rattle.std.proofs.lemmas.List.Sums.{prefix_len-le-length, sum_by-cons}
pub use Rattle.std.proofs.lemmas.Option.{IfSome_then, get_or_from_slice_get, same_Some, slice_get-get_or, slice_get-map, slice_get_read}
pub use Rattle.std.proofs.lemmas.Option.{slice_get_within}
pub use Rattle.std.proofs.lemmas.Slice.Zip.{firsts-zip, length-zip, seconds-zip}
pub use Rattle.std.specs.Io.KnownBytes.{Appends}
pub use Rattle.std.specs.List.{list_all, list_any, onto_first, range_with_len}
pub use Rattle.std.specs.Option.{option_map_or, option_or}
pub use Rattle.std.specs.Prelude.{if◌then◌else◌, ◌+ℤ◌, ◌↔◌, ◌≤ℤ◌, IfSome, MatchOption, MatchResult, filter, nat_le, nat_lt, negsuc}
pub use Rattle.std.specs.Prelude.{option_map, pos, slice_index, slice_set, sum, zip, ℤ}
pub use Rattle.std.specs.Str.{is_utf8}
pub use Rattle.std.specs.Vec.Iter.{into_iter_items}
