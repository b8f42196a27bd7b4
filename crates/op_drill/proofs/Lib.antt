pub mod DrillTexts
