-- Messages by numbers, the Capsule-Protocol field's value and what an error becomes, in numbers. `translated` (crate http_messages) says what it becomes.
use Rattle.refusals.specs.declared.Refusal.{Refusal}
use Rattle.std.specs.Prelude.{ℕ, cond, Bool, true, false, Option, None, Some, Result, Ok, Err}
use Rattle.http_messages.specs.declared.messages.Message.{Message}
use Rattle.http_messages.specs.declared.messages.Message.TheVariants.{Request, Response}
use Rattle.http_errors.specs.declared.translation.Action.{Action}
use Rattle.http_errors.specs.declared.translation.Action.TheVariants.{Close, StreamError, ConnectionError}
use Rattle.answers.specs.declared.messages.FieldAnswer.{FieldAnswer}
use Rattle.answers.specs.declared.messages.TranslationAnswer.{TranslationAnswer}
use Rattle.reader_words.specs.Numbers.{flag_of}
use Rattle.answers.specs.Numbers.{status_of}

-- a request's status is not looked at
unfoldable pub message_of : ℕ → ℕ → Message
message_of response status = cond (flag_of response) (Response (status_of status)) Request

abbrev pub field_said : ℕ → ℕ → FieldAnswer
field_said refusal in_use = record { refusal = refusal; in_use = in_use }

unfoldable pub field_answer : Result Bool Refusal → FieldAnswer
field_answer (Err why) = field_said why.0 0
field_answer (Ok true) = field_said 0 1
field_answer (Ok false) = field_said 0 0

abbrev pub translation : ℕ → ℕ → ℕ → TranslationAnswer
translation refusal action code = record { refusal = refusal; action = action; code = code }

unfoldable pub action_answer : Option Action → TranslationAnswer
action_answer None = translation 0 0 0
action_answer (Some (Close code)) = translation 0 1 code.0
action_answer (Some (StreamError code)) = translation 0 2 code.0
action_answer (Some (ConnectionError code)) = translation 0 3 code.0

unfoldable pub translation_answer : Result (Option Action) Refusal → TranslationAnswer
translation_answer (Err why) = translation why.0 0 0
translation_answer (Ok action) = action_answer action
