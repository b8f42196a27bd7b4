use Rattle.op_configurations.proofs.each_configuration_is_a_run.Goals as goal
use Rattle.op_configurations.proofs.Views as views

pub returns : goal.returns
returns c = record { views = views.each_is_a_run; inner_grows = views.inner_grows; exchange = views.exchange_decides; alone = views.alone_decides }
