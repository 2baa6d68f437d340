pub mod FigureLines
