-- The lines of the page of all messages for what is sent, and what the page means by a Bind.
use Rattle.std.specs.Prelude.{◌≡◌, ℕ, List, []}
use Rattle.pg_base.specs.declared.format.FrontendMessageFormat.{FrontendMessageFormat}
use Rattle.pg_base.specs.Id.{name, statement_prefix, portal_prefix}
use Rattle.pg_format.specs.Format.{Format}
use Rattle.pg_format.specs.Format.Lists.{times}
use Rattle.pg_format.specs.Format.Nullable as nullable
use Rattle.pg_format.specs.Messages as page
use Rattle.pg_format.specs.Messages.{Meaning, means, from_client}
use Rattle.pg_send.specs.Bind.{BindFields}
use Rattle.pg_send.specs.FrontendMessage.{Form, plain, raw, cleartext, md5, sasl_initial, any_sasl_initial, sasl_response}

-- bytes that are written of a value, which fits where nothing follows
pub record IsWritten {A : Type 0} (g : Format A) (bytes : List ℕ) (v : A) : Type 0 where
  pub is : bytes ≡ g.Writes v
  pub fits : g.Fits v []

-- the line of a tag; passwords and SASL's messages, which have one tag, have a line each
abbrev pub line_of : Form → FrontendMessageFormat → Meaning
line_of plain format = from_client format
line_of raw format = from_client format
line_of cleartext format = means page.text
line_of md5 format = means page.text
line_of sasl_initial format = means page.sasl_initial_response
line_of any_sasl_initial format = means page.sasl_initial_response
line_of sasl_response format = means page.sasl_response

-- names are their bytes, and the parameters are what is written of so many values
pub record MeantByBind (b : BindFields) (v : page.Bind) : Type 0 where
  pub portal : v.portal ≡ name portal_prefix b.portal
  pub statement : v.statement ≡ name statement_prefix b.statement
  pub formats : v.formats ≡ b.formats
  pub values : IsWritten (times b.num_params nullable.value) b.params v.values
  pub result_formats : v.result_formats ≡ b.result_formats
