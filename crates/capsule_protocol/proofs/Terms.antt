-- Definitions that the proofs here use, passed on: one `use` in place of many.
pub use Rattle.capsule_protocol.specs.{Rules.Rule, Rules.Class, Rules.◌or◌, Rules.optional, Rules.many, Bytes.is, Bytes.is_space, Stages.reading, Stages.at, Stages.next_of, Stages.rest_of, Stages.may_end, Stages.Stays, Stages.SameRest, declared.stages.Stage.Stage, Cases.Classes, Cases.Kinds, Cases.Cases, Cases.values_in_use, Cases.values_absent, Cases.long_values, declared.stages.Reading.Reading}
pub use Rattle.capsule_protocol.specs.Claims.{spaces, In, EmptyExactly, OneExactly, EveryExactly, UpToExactly, ThenExactly, joined, AllIn, ManyExactly, Digits, Signed, IntegerExactly, DecimalExactly, CharacterExactly, StringExactly, Headed, TokenExactly, ByteSequenceExactly, BooleanExactly, BareItemExactly, KeyExactly, ParameterExactly, AllParameters, ParametersExactly, ItemExactly, FieldExactly, InUseExactly, BareTrueInUse, SpacesIgnored, ParameterAdded, OtherItemsAbsent, is_blank, ListsAbsent, InnerListsAbsent, OnlyItemsInUse, RunsExactly}
pub use Rattle.capsule_protocol.specs.declared.stages.Stage.TheVariants.{Front, Question, Item, Trailing, Semicolon, Key, Equals, Number, Fraction, Text, Escape, Token, Binary, Boolean, Wrong}
unfoldable pub use Rattle.capsule_protocol.specs.{Rules.empty, Rules.one, Rules.every, Rules.up_to, Rules.◌then◌, Rules.◌then_many◌, Bytes.is_lower, Bytes.is_alpha, Bytes.is_digit, Bytes.is_key_start, Bytes.is_key_byte, Bytes.is_unescaped, Bytes.is_escapable, Bytes.is_token_start, Bytes.is_token_byte, Bytes.is_base64, Bytes.is_bit, Items.sf_integer, Items.sf_decimal, Items.chr, Items.sf_string, Items.sf_token, Items.sf_binary, Items.sf_boolean, Items.bare_item, Items.key, Items.parameter, Items.parameters, Items.sf_item, Items.true_item, Field.in_use, Field.field_of, Stages.stays_at, Stages.is_run, Stages.at_if, Stages.within, Stages.one_more, Stages.after_item, Stages.after_digits, Stages.first_of_bare_item, Stages.next_at, Stages.up_to_after, Stages.rest_at, Stages.may_end_at}
pub use Rattle.walks.proofs.{Impossible.zero_one}
unfoldable pub use Rattle.text_bytes.specs.{Text.text}
pub use Rattle.refusals.specs.{Numbers.field_too_long}
