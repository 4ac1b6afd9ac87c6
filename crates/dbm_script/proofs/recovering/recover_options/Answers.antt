use Rattle.std.proofs.Common.{refl}
use Rattle.dbm_script.proofs.Recovered.{no_options, follows_media, media_in_range}
use Rattle.dbm_script.proofs.recovering.recover_options.Goals as goal

pub returns-in_default : goal.returns-in_default
returns-in_default c =
    no_options c.args.media.items c.args.rest.now c.log_option-log.result.1.now c.log_option-log.result.0 c.requires.whole c.log_option-log.ensures c.in_default.ensures.1

pub returns : goal.returns
returns c = (
  media_in_range c.args.media.items c.in-Ok.until c.requires.media c.requires.some c.requires.few c.in-Ok.ensures.0,
  (refl, follows_media c.args.media.items c.log_option-log.result.0 c.in-Ok.until c.args.rest.now c.log_option-log.result.1.now c.log_option-log.ensures c.in-Ok.ensures.1),
)
