-- Words of the kit for laws and function proofs, re-exported: one `use` in place of many. Assumes nothing.
pub use Prim.Native.Nat.{◌%◌, ◌*◌, ◌+◌, ◌-◌, ◌/◌, ◌<◌, ◌^◌, ◌≤◌, suc, zero, zero-le, ℕ}
pub use borrow.Author.Rules.{rules}
pub use borrow.Author.Tests.{eq-eqb, eqb-false, eqb-true, le-leb, le-ltb, leb-false, leb-true, lt-leb, lt-ltb, ltb-false, ltb-true, ne_eqb, not-false, not-true}
pub use lib.Arith.{digits_div, digits_lt, digits_mod, mod-mul}
pub use lib.Dec.{T, eqb, eqb→eq, leb, lit<, ltb, ltb→lt, nltb→le}
pub use lib.Ieee.Bits.{is_false, is_true}
pub use lib.ListN.{get_or-append, get_or-eq_default, drop, drop_of_length-le, get_or, length, length-append, length-drop, length-replicate, length-set, length-take, replicate, replicate-append-replicate, set, take, take-append-drop}
pub use lib.Pow.{mod-pow-add, pow-add, pow-lt, pow_mono, pow_pos}
pub use lib.Seq.{append_snoc, drop-append-add, drop-append-le, drop-append_seam, drop_at, drop-cons, drop-drop, drop-length, drop-nil, drop-paste, get_or_at, get_or-drop, get_or-set_other, get_or-set_same, get_or-take, length-sets, length-take-le, paste, paste-suc, paste-zero, set_at, set_comm, set-get_or, set_out, sets, sets-eq, split_at, take-add, take_all, take-append-add, take-append-le, take_at, take-length, take-nil, take-paste, take-suc, take-take}
pub use mathlib.Core.Bool.{Bool, ◌&&◌, ◌||◌, and_assoc, and-false, and-true, cond, false, false≢true, not, or-false, or-true, true, true≢false}
pub use mathlib.Core.List.{List, [], ◌++◌, ◌∷◌, append_assoc, append-nil, map, map-append, reverse, reverse-append, reverse-cons, reverse-reverse}
pub use mathlib.Core.Logic.Iff.{and as iff_and}
pub use mathlib.Core.Logic.Iff.{rfl as iff_rfl}
pub use mathlib.Core.Logic.Iff.{trans as iff_trans}
pub use mathlib.Core.Logic.{◌↔◌, ◌⊎◌, inl, inr, ⊎_elim}
pub use Rattle.std.specs.Option.{option_map}
pub use Rattle.std.specs.Prelude.{Option, Some, None, slice_get}
pub use mathlib.Core.Path.{◌∙◌, ◌≡◌, ap, refl, subst, sym}
pub use native.Mathlib.Decide.{dec_le}
pub use native.Mathlib.Nat.{add_assoc, add-suc, add-zero, div-add-mod', div-div-eq-div-mul, div-le_self, div-lt_iff_lt-mul, div-mul-le_self, div-one, le_antisymm, le-div_iff_mul-le, le_of_suc-le-suc, le_refl, lt_of_not-le, mod-eq_of_lt, mod-lt, mul-add-mod_self_right, mul-div_cancel, mul-le-mul_left, mul-le-mul_right, not-suc-le-zero, one-le-pow, pow-suc, pow-succ', suc-add, suc-mul, zero-add}
pub use native.Mathlib.Numerals.{add-one, one-add, sub-one}
pub use native.Mathlib.Omega.{arith}
