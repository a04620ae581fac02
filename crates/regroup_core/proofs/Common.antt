-- The names that many proofs of this crate use.
pub use Rattle.std.proofs.Common.{Bool, Err, List, None, Ok, Option, Result, Some, [], ap, append-nil, append_assoc, arith, drop, eq-eqb}
pub use Rattle.std.proofs.Common.{false, get_or, if◌then◌else◌, inl, inr, length, refl, rules, slice_range, subst, sym, take}
pub use Rattle.std.proofs.Common.{take-append-drop, true, ℕ, ◌++◌, ◌+◌, ◌-◌, ◌<◌, ◌==◌, ◌∙◌, ◌∷◌, ◌≡◌, ◌≢◌, ◌≤◌}
pub use Rattle.std.proofs.lemmas.Bool.{cases_Bool, eqb-true, false_from_ne_true, leb-false, le-leb, lt-leb, ltb-false, ne_eqb, not-true}
pub use Rattle.std.proofs.lemmas.Bool.{or_from, or_parts}
pub use Rattle.std.proofs.lemmas.Bool.Decides.{Decides-ltb}
pub use Rattle.std.proofs.lemmas.Grind.{common_steps, flat_map-append}
pub use Rattle.std.proofs.lemmas.List.{drop-append-le, drop-drop, drop_all, drop_more, get_or-drop, length-append, length-drop}
pub use Rattle.std.proofs.lemmas.List.{length-take-le}
pub use Rattle.std.proofs.lemmas.List.{take-append-le, take_all, take_more, take_rest}
pub use Rattle.std.proofs.lemmas.List.Sums.{fold-append, sum_by-append}
pub use Rattle.std.specs.Char.{is_ascii_whitespace}
pub use Rattle.std.specs.List.{flat_map, fold, join_with_byte, list_any, onto_first, prefix_len, suffix_len}
pub use Rattle.std.specs.Option.{option_map, unwrap_or}
pub use Rattle.std.specs.Prelude.{All, cond, count_by, is_some, max, nat_eq, nat_le, nat_lt, not, suc, zero, ⊤, ◌&&◌, ◌||◌, IsOkAnd}
pub use Rattle.std.specs.Result.{result_map_both}
pub use lib.Seq.{take-add}
pub use Rattle.regroup_core.specs.Fields.{delimiter_of, fields_len, is_field, number_of, parts_of, quotes_of}
pub use Rattle.regroup_core.specs.Records.{Searched, after_bare, after_byte, after_text, end_at, end_of, ends_in, has_end, is_end}
pub use Rattle.regroup_core.specs.Records.{is_inside, is_quote}
pub use Rattle.regroup_core.specs.Records.{split_at, state_after, through_end}
pub use Rattle.regroup_core.specs.declared.dialect.Separation.{Separation}
pub use Rattle.regroup_core.specs.declared.record.Within.{Within}
pub use Rattle.regroup_core.specs.declared.record.Within.TheVariants.{Start}
