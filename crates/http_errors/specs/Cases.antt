-- Cases of document 01 on translation. One statement carries them: `Cases`, proved in proofs/Cases.antt. On the errors of answers the laws of
-- Claims.antt say all there is.
use Rattle.std.specs.Prelude.{◌≡◌, [], ◌∷◌, map, ◌-◌, ◌^◌, None, Ok, Err}
use Rattle.refusals.specs.Numbers.{refusal}
use Rattle.http_errors.specs.Translation.{translated, close, stream, connection}

pub record Cases : Type 0 where
  pub unknown_errors : map (λ e. translated e 3) (0 ∷ 8 ∷ (2 ^ 64 - 1) ∷ []) ≡ Err (refusal 17) ∷ Err (refusal 17) ∷ Err (refusal 17) ∷ []
  pub unknown_versions : map (translated 1) (0 ∷ 4 ∷ []) ≡ Err (refusal 17) ∷ Err (refusal 17) ∷ []
  -- document 01's table: a row for each error, 1 to 6, and 7 as 1; a column for each version, 1 to 3
  pub translations :
      map (λ e. map (translated e) (1 ∷ 2 ∷ 3 ∷ [])) (1 ∷ 2 ∷ 3 ∷ 4 ∷ 5 ∷ 6 ∷ 7 ∷ [])
      ≡ (Ok (close 0) ∷ Ok (stream 0x01) ∷ Ok (stream 0x010e) ∷ [])
      ∷ (Ok (close 0) ∷ Ok (stream 0x01) ∷ Ok (stream 0x33) ∷ [])
      ∷ (Ok None ∷ Ok None ∷ Ok (connection 0x33) ∷ [])
      ∷ (Ok None ∷ Ok None ∷ Ok (connection 0x33) ∷ [])
      ∷ (Ok None ∷ Ok None ∷ Ok (connection 0x0108) ∷ [])
      ∷ (Ok None ∷ Ok None ∷ Ok (connection 0x0109) ∷ [])
      ∷ (Ok (close 0) ∷ Ok (stream 0x01) ∷ Ok (stream 0x010e) ∷ [])
      ∷ []
