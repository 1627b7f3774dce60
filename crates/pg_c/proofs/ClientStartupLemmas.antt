-- The settings of a Startup are given one by one.
use Rattle.std.proofs.Common.{◌≡◌, ℕ, ◌+◌, ◌<◌, ◌≤◌, Some, List, [], ◌∷◌, ◌++◌, length, set, refl, sym, ap, ◌∙◌, arith, append_assoc, length-append}
use Rattle.pg_format.specs.Messages.{setting}
use Rattle.pg_server.specs.Frontend.Lists.{settings_in}
use Rattle.pg_server.proofs.FrontendSettingsLemmas.{first_setting}
use Rattle.pg_c.specs.Client.Startup.{setting_in}
use Rattle.pg_c.specs.declared.read.status.PgmsgParameterStatus.{PgmsgParameterStatus}
use Rattle.pg_c.proofs.ReadListsLemmas.{GivesAll, one_more, no_more}
use Rattle.pg_c.proofs.PlaceLemmas.{two_texts}

abbrev pub GivesSettings : List ℕ → List ℕ → List ℕ → ℕ → ℕ → List PgmsgParameterStatus → List PgmsgParameterStatus → Type 0
GivesSettings body start rest at count old new = GivesAll settings_in (setting_in body) body start rest at count old new

module _ (body start rest : List ℕ) (at count : ℕ) (old new : List PgmsgParameterStatus) (name value after : List ℕ) (p : GivesSettings body start rest at count old new) (q : setting.Reads rest (name, value) after) where
  abbrev place : PgmsgParameterStatus
  place = record { name = record { at = at; len = length name }; value = record { at = at + length name + 1; len = length value } }

  abbrev spelled : List ℕ
  spelled = name ++ 0 ∷ (value ++ 0 ∷ [])

  rest_is : rest ≡ spelled ++ after
  rest_is =
      let texts : q.0.mid ≡ (value ++ 0 ∷ []) ++ after = q.0.second.parts ∙ sym (append_assoc value (0 ∷ []) after) in
      q.0.first.parts ∙ ap (λ (l : List ℕ). name ++ 0 ∷ l) texts ∙ sym (append_assoc name (0 ∷ (value ++ 0 ∷ [])) after)

  place_is : setting_in body place ≡ Some (name, value)
  place_is =
      let found = two_texts body p.before rest name q.0.mid value after at p.parts p.up_to q.0.first q.0.second in
      rw (found.0, found.1) refl

  setting_len : length spelled ≡ length name + length value + 2
  setting_len = omega (arith, length-append name (0 ∷ (value ++ 0 ∷ [])), length-append value (0 ∷ []))

  first : settings_in rest ≡ (name, value) ∷ settings_in after
  first = first_setting rest name q.0.mid value after q.0.first q.1 q.0.second

  pub less_left : length after < length rest
  less_left = omega (arith, ap length rest_is, length-append spelled after, setting_len)

  pub one_more_setting : count < length new → GivesSettings body start after (at + (length name + length value + 2)) (count + 1) old (set new count place)
  one_more_setting lt = rw (← setting_len) (one_more settings_in (setting_in body) body start rest at count old new p place (name, value) spelled after rest_is place_is first (omega (arith, setting_len)) lt)

  pub no_more_setting : length new ≤ count → GivesSettings body start after (at + (length name + length value + 2)) (count + 1) old new
  no_more_setting le = rw (← setting_len) (no_more settings_in (setting_in body) body start rest at count old new p (name, value) spelled after rest_is first (omega (arith, setting_len)) le)
