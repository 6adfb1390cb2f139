-- `tap::header::tap_version` meets its contract: refusals 10, 11 and 10, and else the version.
use mathlib.Core.Path.{sym, ◌∙◌}
use Rattle.tap.proofs.HeaderLaws.{tap_version-wrong_letters, tap_version-wrong_tap_version, tap_version-wrong_count, tap_version-accepted}
use Rattle.tap.proofs.header.tap_version.Goals as goal

pub returns-then-wrong_letters : goal.returns-then-wrong_letters
returns-then-wrong_letters c =
    tap_version-wrong_letters c.args.file.now (sym c.wrong_letters.ensures ∙ c.if-wrong_letters.true) c.into.ensures

pub returns-then-version-gt-LAST_VERSION : goal.returns-then-version-gt-LAST_VERSION
returns-then-version-gt-LAST_VERSION c =
    tap_version-wrong_tap_version c.args.file.now (sym c.wrong_letters.ensures ∙ c.if-wrong_letters.false) c.if-version-gt-LAST_VERSION.true c.into-then-version-gt-LAST_VERSION.ensures

pub returns-then-wrong_count : goal.returns-then-wrong_count
returns-then-wrong_count c =
    tap_version-wrong_count c.args.file.now (sym c.wrong_letters.ensures ∙ c.if-wrong_letters.false) c.if-version-gt-LAST_VERSION.false
    (sym c.wrong_count.ensures ∙ c.if-wrong_count.true) c.into-then-wrong_count.ensures

pub returns : goal.returns
returns c =
    tap_version-accepted c.args.file.now (sym c.wrong_letters.ensures ∙ c.if-wrong_letters.false) c.if-version-gt-LAST_VERSION.false
    (sym c.wrong_count.ensures ∙ c.if-wrong_count.false)
